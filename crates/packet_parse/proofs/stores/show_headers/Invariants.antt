use Rattle.std.proofs.Common.{◌≡◌, ◌++◌, length, take, drop, map}
use Rattle.p4_packets.specs.Fields.{store_of}
use Rattle.p4_resolved.specs.Scopes.{scope_of}
use Rattle.packet_parse.specs.Stores.{shown_valid}
use Rattle.packet_parse.proofs.stores.show_headers.Given as goal

abbrev pub invariant-loop-i : goal.invariant-loop-i
invariant-loop-i l = record {
  size : length l.rows.items ≡ l.i-end;
  made : take l.i l.rows.items ++ map (shown_valid (scope_of l.sc) (store_of l.s)) (drop l.i l.rows.items) ≡ map (shown_valid (scope_of l.sc) (store_of l.s)) l.initial.rows.items;
}
