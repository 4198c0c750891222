use Rattle.std.proofs.Common.{◌≡◌, ◌+◌, map, drop}
use Rattle.slot_places.specs.HeaderSlots.{header_slots_of}
use Rattle.slot_deparsers.specs.Emits.{most_bits}
use Rattle.slot_deparsers.proofs.headers.most_bits.Given as goal

abbrev pub invariant-loop-i : goal.invariant-loop-i
invariant-loop-i l = l.most + most_bits (map header_slots_of l.headers) (drop l.i l.numbers) ≡ most_bits (map header_slots_of l.headers) l.numbers
