use Rattle.std.proofs.Common.{◌+◌, ◌++◌, map, take}
use Rattle.bit_values.specs.Bytes.{bits_of}
use Rattle.indus_values.specs.View.{cells_of}
use Rattle.tele_layout.specs.Layouts.{slots_length, slots_bits}
use Rattle.tele_layout.proofs.WritingLemmas.{PuttingSlots}
use Rattle.tele_layout.proofs.writing.put_slots.Given as goal

abbrev pub invariant-loop-slot : goal.invariant-loop-slot
invariant-loop-slot l =
    PuttingSlots (8 + slots_length l.slots) (take 8 (bits_of l.initial.buf) ++ slots_bits l.slots (map cells_of l.lists))
    l.end (bits_of l.buf) l.slot-iterator.a.rest.now (map cells_of l.slot-iterator.b.rest.now)
