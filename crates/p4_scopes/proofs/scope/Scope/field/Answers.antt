use Rattle.std.proofs.Common.{◌∙◌}
use Rattle.p4_scopes.proofs.Held.{one_read, none_read, field_there, field_past}
use Rattle.p4_scopes.proofs.scope.Scope.field.Goals as goal

pub returns-in-Some : goal.returns-in-Some
returns-in-Some c =
    rw c.in-Declared.is
    (c.entry_field.ensures ∙ field_there c.self.inside c.args.self.now c.in-Declared.i c.in-Declared.field-0 c.in-Some.e.now c.args.name.now c.self.invariant c.self.view_is
    (one_read c.deref.result.now c.self.inside.entries.items c.in-Declared.i c.in-Some.e.now c.deref.ensures.value c.in-Some.ensures.lookup.0 c.in-Some.ensures.lookup.1))

pub returns-in-None : goal.returns-in-None
returns-in-None c =
    rw c.in-Declared.is
    (field_past c.self.inside c.args.self.now c.in-Declared.i c.in-Declared.field-0 c.args.name.now c.self.view_is
    (none_read c.deref.result.now c.self.inside.entries.items c.in-Declared.i c.deref.ensures.value c.in-None.ensures.lookup.0))
