use Rattle.std.proofs.Common.{◌≡◌, ◌++◌, map, drop}
use Rattle.p4_parts.specs.Headers.{header_in}
use Rattle.slot_places.specs.HeaderSlots.{header_slots_of, slots_of_headers}
use Rattle.slot_places.proofs.begins.headers_from.Given as goal

abbrev pub invariant-loop-h : goal.invariant-loop-h
invariant-loop-h l =
    map header_slots_of l.made.items ++ slots_of_headers (map header_in (drop l.h-index l.headers)) l.next
    ≡ slots_of_headers (map header_in l.headers) l.first
