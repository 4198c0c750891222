use Rattle.std.proofs.Common.{◌≡◌, drop, map}
use Rattle.p4_tree.specs.View.{expr_of}
use Rattle.p4_scopes.specs.View.{scope_of}
use Rattle.p4_statement_rules.specs.Calls.{have_bits}
use Rattle.p4_statement_rules.proofs.sums.have_bits.Given as goal

abbrev pub invariant-loop-e : goal.invariant-loop-e
invariant-loop-e l = have_bits (scope_of l.scope) (map expr_of (drop l.e-index l.values)) ≡ have_bits (scope_of l.scope) (map expr_of l.values)
