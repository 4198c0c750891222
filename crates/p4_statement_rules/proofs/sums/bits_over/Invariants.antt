use Rattle.std.proofs.Common.{◌≡◌, ◌<◌, ◌+◌, ◌%◌, drop, map}
use Rattle.p4_tree.specs.View.{expr_of}
use Rattle.p4_scopes.specs.View.{scope_of}
use Rattle.p4_statement_rules.specs.Calls.{bits_over}
use Rattle.p4_statement_rules.proofs.sums.bits_over.Given as goal

abbrev pub invariant-loop-e : goal.invariant-loop-e
invariant-loop-e l = record {
  small : l.bits < 16;
  rest : (l.bits + bits_over (scope_of l.scope) (map expr_of (drop l.e-index l.values))) % 16 ≡ bits_over (scope_of l.scope) (map expr_of l.values);
}
