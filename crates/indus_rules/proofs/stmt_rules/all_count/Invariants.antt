use Rattle.std.proofs.Common.{◌≡◌, drop}
use Rattle.indus_scopes.specs.Sights.{scope_of}
use Rattle.indus_rules.specs.Rules.{all_count}
use Rattle.indus_rules.proofs.stmt_rules.all_count.Given as goal

abbrev pub invariant-loop-x : goal.invariant-loop-x
invariant-loop-x l = all_count (scope_of l.scope) (drop l.x-index l.lists) ≡ all_count (scope_of l.scope) l.lists
