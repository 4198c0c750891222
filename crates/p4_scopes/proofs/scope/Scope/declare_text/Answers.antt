use Rattle.std.proofs.Common.{◌∙◌, refl}
use Rattle.p4_scopes.proofs.Changes.{kept_push, scope_more, kept_same, cut_again}
use Rattle.p4_scopes.proofs.scope.Scope.declare_text.Goals as goal

pub invariant_of-self-in-Ok : goal.invariant_of-self-in-Ok
invariant_of-self-in-Ok c =
    kept_push c.self.inside (record { alloc = c.self.inside.alloc; entries = c.push.new.self; names = c.insert.new.self }) c.args.self.now
    (record { name = c.args.name; declared = c.in_ok-declared.declared; older = c.newest-older.result }) c.len-number.result c.args.name
    c.self.invariant c.self.view_is c.in_ok-push.ensures.items c.newest-older.ensures c.in_ok-declared.ensures.known (c.len-number.ensures ∙ c.self.inside.entries.ok.0) refl c.in-Ok.ensures.updates.0

pub returns-in-Ok-clause-declared : goal.returns-in-Ok-clause-declared
returns-in-Ok-clause-declared c =
    scope_more c.self.inside (record { alloc = c.self.inside.alloc; entries = c.push.new.self; names = c.insert.new.self }) c.args.self.now
    (record { name = c.args.name; declared = c.in_ok-declared.declared; older = c.newest-older.result }) _
    c.self.view_is c.in_ok-push.ensures.items c.in_ok-declared.ensures.what

pub invariant_of-self : goal.invariant_of-self
invariant_of-self c = kept_same c.self.inside (record { alloc = c.self.inside.alloc; entries = c.push.new.self; names = c.self.inside.names }) c.self.invariant c.in_err-push.ensures.items refl

pub invariant_of-self-in-Err : goal.invariant_of-self-in-Err
invariant_of-self-in-Err c =
    kept_same c.self.inside (record { alloc = c.self.inside.alloc; entries = c.truncate.new.self; names = c.insert.new.self }) c.self.invariant
    (cut_again c.self.inside.entries.items c.push.new.self.items c.truncate.new.self.items (record { name = c.args.name; declared = c.in_ok-declared.declared; older = c.newest-older.result })
    c.len-number.result (c.len-number.ensures ∙ c.self.inside.entries.ok.0) c.in_ok-push.ensures.items c.truncate.ensures.items)
    c.in-Err.ensures.err
