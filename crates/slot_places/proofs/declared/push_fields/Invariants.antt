use Rattle.std.proofs.Common.{◌≡◌, ◌++◌, length, map, drop}
use Rattle.p4_parts.specs.Headers.{field_in}
use Rattle.slot_terms.specs.Places.{place_of}
use Rattle.slot_places.specs.ProgramRows.{field_rows}
use Rattle.slot_places.proofs.declared.push_fields.Given as goal

abbrev pub invariant-loop-f : goal.invariant-loop-f
invariant-loop-f l =
    map place_of l.rows.items ++ field_rows l.above l.header (map field_in (drop l.f-index l.fields)) (length (map place_of l.rows.items))
    ≡ map place_of l.initial.rows.items ++ field_rows l.above l.header (map field_in l.fields) (length (map place_of l.initial.rows.items))
