use Rattle.std.proofs.Common.{◌≡◌, ◌+◌, ◌≤◌, ◌++◌, map, take, drop}
use Rattle.bit_values.specs.Bytes.{bits_of}
use Rattle.slot_terms.specs.States.{state_of}
use Rattle.slot_places.specs.HeaderSlots.{header_slots_of}
use Rattle.slot_deparsers.specs.Emits.{emitted_bits, most_bits}
use Rattle.slot_deparsers.proofs.headers.emit_headers.Given as goal

abbrev pub invariant-loop-i : goal.invariant-loop-i
invariant-loop-i l = record {
  bits : take l.end (bits_of l.buffer) ++ emitted_bits (map header_slots_of l.headers) (drop l.i l.numbers) (state_of l.s) ≡ emitted_bits (map header_slots_of l.headers) l.numbers (state_of l.s);
  end : l.end + most_bits (map header_slots_of l.headers) (drop l.i l.numbers) ≤ most_bits (map header_slots_of l.headers) l.numbers;
}
