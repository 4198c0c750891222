use Rattle.std.proofs.Common.{ap, ◌∙◌}
use Rattle.p4_scopes.specs.Resolving.{last_at, name_resolved}
use Rattle.p4_scopes.proofs.Held.{one_read, none_read, name_there, name_past}
use Rattle.p4_scopes.proofs.scope.Scope.name_resolved.Goals as goal

pub returns-in-None : goal.returns-in-None
returns-in-None c = c.core_resolved.ensures ∙ ap (name_resolved c.args.self.now c.args.name.now) (c.in-None.ensures ∙ ap (last_at c.args.self.now) c.as_str.ensures)

pub returns-in-Some-get : goal.returns-in-Some-get
returns-in-Some-get c =
    c.entry_resolved.ensures ∙ name_there c.self.inside c.args.self.now c.args.name.now c.in-Some.i c.in-Some-get.e.now c.self.invariant c.self.view_is
    (one_read c.deref.result.now c.self.inside.entries.items c.in-Some.i c.in-Some-get.e.now c.deref.ensures.value c.in-Some-get.ensures.lookup.0 c.in-Some-get.ensures.lookup.1) (c.in-Some.ensures ∙ ap (last_at c.args.self.now) c.as_str.ensures)

pub returns-in-None-get : goal.returns-in-None-get
returns-in-None-get c =
    name_past c.self.inside c.args.self.now c.args.name.now c.in-Some.i c.self.view_is
    (none_read c.deref.result.now c.self.inside.entries.items c.in-Some.i c.deref.ensures.value c.in-None-get.ensures.lookup.0) (c.in-Some.ensures ∙ ap (last_at c.args.self.now) c.as_str.ensures)
