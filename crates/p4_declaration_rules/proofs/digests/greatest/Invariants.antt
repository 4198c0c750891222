use Rattle.std.proofs.Common.{◌≡◌, drop, max}
use Rattle.p4_scopes.specs.View.{scope_of}
use Rattle.p4_declaration_rules.specs.Digests.{greatest}
use Rattle.p4_declaration_rules.proofs.digests.greatest.Given as goal

abbrev pub invariant-loop-action : goal.invariant-loop-action
invariant-loop-action l = max l.most (greatest (scope_of l.scope) (drop l.action-index l.actions)) ≡ greatest (scope_of l.scope) l.actions
