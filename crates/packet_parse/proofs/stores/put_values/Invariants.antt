use Rattle.std.proofs.Common.{◌≡◌, ◌≤◌, drop, length}
use Rattle.p4_packets.specs.Fields.{store_of}
use Rattle.p4_resolved.specs.Scopes.{scope_of}
use Rattle.packet_parse.specs.Stores.{with_values}
use Rattle.packet_parse.proofs.stores.put_values.Given as goal

abbrev pub invariant-loop-left : goal.invariant-loop-left
invariant-loop-left l = record {
  within : l.left ≤ length l.rows;
  set : store_of l.s ≡ with_values (scope_of l.sc) (drop l.left l.rows) (store_of l.initial.s);
}

abbrev pub decreases-loop-left : goal.decreases-loop-left
decreases-loop-left l = l.left
