use Rattle.std.proofs.Common.{◌≡◌, map, take}
use Rattle.slot_places.specs.HeaderSlots.{header_slots_of}
use Rattle.slot_controls.specs.Steps.{slots_of}
use Rattle.slot_programs.specs.Sight.{slots_at}
use Rattle.slot_programs.proofs.emits.header_slots.Given as goal

abbrev pub invariant-loop-h : goal.invariant-loop-h
invariant-loop-h l = map slots_of l.slots.items ≡ map slots_at (map header_slots_of (take l.h-index l.headers))
