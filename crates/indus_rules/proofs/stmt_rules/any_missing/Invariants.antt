use Rattle.std.proofs.Common.{◌≡◌, drop}
use Rattle.indus_scopes.specs.Sights.{scope_of}
use Rattle.indus_rules.specs.Rules.{any_missing}
use Rattle.indus_rules.proofs.stmt_rules.any_missing.Given as goal

abbrev pub invariant-loop-x : goal.invariant-loop-x
invariant-loop-x l = any_missing (scope_of l.scope) (drop l.x-index l.lists) ≡ any_missing (scope_of l.scope) l.lists
