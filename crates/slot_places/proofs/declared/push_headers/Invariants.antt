use Rattle.std.proofs.Common.{◌≡◌, ◌++◌, length, map, drop}
use Rattle.p4_parts.specs.Headers.{header_in}
use Rattle.slot_terms.specs.Places.{place_of}
use Rattle.slot_places.specs.ProgramRows.{header_rows}
use Rattle.slot_places.proofs.declared.push_headers.Given as goal

abbrev pub invariant-loop-i : goal.invariant-loop-i
invariant-loop-i l =
    map place_of l.rows.items ++ header_rows (map header_in (drop l.i l.headers)) l.i (length (map place_of l.rows.items))
    ≡ map place_of l.initial.rows.items ++ header_rows (map header_in l.headers) 0 (length (map place_of l.initial.rows.items))
