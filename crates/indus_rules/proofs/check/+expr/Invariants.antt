use Rattle.std.proofs.Common.{◌≡◌, drop}
use Rattle.indus_tree.specs.View.{exprs_of}
use Rattle.indus_scopes.specs.Sights.{scope_of}
use Rattle.indus_rules.specs.Sites.{all_sites, wants_of}
use Rattle.indus_rules.specs.Rules.{first}
use Rattle.indus_rules.proofs.check.+expr.Given as goal

abbrev pub invariant-check_all-loop-e : goal.invariant-check_all-loop-e
invariant-check_all-loop-e l = first (all_sites (scope_of l.scope) (wants_of l.wants) (exprs_of (drop l.e-index l.all))) ≡ first (all_sites (scope_of l.initial.scope) (wants_of l.initial.wants) (exprs_of l.all))
