use Rattle.std.proofs.Common.{◌≡◌, map, take, length}
use Rattle.p4_tree.specs.View.{expr_of}
use Rattle.p4_meaning.specs.Value.{value_of}
use Rattle.p4_packets.specs.Fields.{store_of}
use Rattle.p4_statements.proofs.acts.values_of.Given as goal

abbrev pub invariant-loop-e : goal.invariant-loop-e
invariant-loop-e l = record {
  count : length l.values.items ≡ l.e-index;
  values : l.values.items ≡ map (λ e. value_of e 0 (store_of l.s)) (map expr_of (take l.e-index l.list));
}
