use Rattle.std.proofs.Common.{◌≡◌, drop, map}
use Rattle.p4_tree.specs.View.{expr_of}
use Rattle.p4_scopes.specs.View.{scope_of}
use Rattle.p4_statement_rules.specs.Ranks.{first_from}
use Rattle.p4_statement_rules.specs.Expressions.{all_free}
use Rattle.p4_statement_rules.proofs.expressions.check_all_free.Given as goal

abbrev pub invariant-loop-e : goal.invariant-loop-e
invariant-loop-e l = first_from l.found.first (all_free (scope_of l.scope) (map expr_of (drop l.e-index l.all))) ≡ first_from l.initial.found.first (all_free (scope_of l.scope) (map expr_of l.all))
