use Rattle.std.proofs.Common.{◌≡◌, ◌+◌, ◌-◌}
use Rattle.slot_packets.specs.Validity.{zero_slots}
use Rattle.slot_packets.proofs.validity.zero_slots.Given as goal

abbrev pub invariant-loop-i : goal.invariant-loop-i
invariant-loop-i l = zero_slots (l.first + l.i) (l.count - l.i) l.slots ≡ zero_slots l.first l.count l.initial.slots
