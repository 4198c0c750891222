use Rattle.std.proofs.Common.{◌≡◌, map, take, true}
use Rattle.p4_parts.specs.Headers.{field_in}
use Rattle.slot_packets.specs.Headers.{width_in}
use Rattle.slot_places.specs.ProgramPlaces.{are_widths}
use Rattle.slot_places.proofs.begins.field_widths.Given as goal

abbrev pub invariant-loop-f : goal.invariant-loop-f
invariant-loop-f l = record { widths : l.widths.items ≡ map width_in (map field_in (take l.f-index l.fields)); sound : are_widths l.widths.items ≡ true }
