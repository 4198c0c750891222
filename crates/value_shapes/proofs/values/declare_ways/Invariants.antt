use Rattle.std.proofs.Common.{◌≡◌, ◌≤◌, drop, take, length}
use Rattle.p4_scopes.specs.View.{scope_of}
use Rattle.p4_declaration_rules.specs.Parsers.{with_ways}
use Rattle.value_shapes.proofs.values.declare_ways.Given as goal

abbrev pub invariant-loop-p : goal.invariant-loop-p
invariant-loop-p l = record {
  kept : take (length l.initial.scope) l.scope ≡ l.initial.scope;
  longer : length l.initial.scope ≤ length l.scope;
  declared : with_ways (scope_of l.scope) (drop l.p-index l.params) ≡ with_ways (scope_of l.initial.scope) l.params;
}
