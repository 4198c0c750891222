use Rattle.std.proofs.Common.{drop}
use Rattle.bit_values.specs.Bytes.{bits_of}
use Rattle.tele_layout.proofs.ReadingLemmas.{TakingSlots}
use Rattle.tele_layout.proofs.reading.read_slots.Given as goal

abbrev pub invariant-loop-slot : goal.invariant-loop-slot
invariant-loop-slot l = TakingSlots (bits_of l.buf) l.slots l.end (drop l.slot-index l.slots) l.items.items
