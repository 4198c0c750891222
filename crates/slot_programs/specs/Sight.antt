-- What is in sight in the controls of a program. Read `Room` before it, `Callees` of `slot_controls`, and `ProgramPlaces` of
-- `slot_places`; `Known` after it.
use Rattle.std.specs.Prelude.{ℕ, ◌+◌, List, [], map, length}
use Rattle.p4_meaning.specs.Parts.{Cells, Parts}
use Rattle.p4_parts.specs.Slots.{slots_in}
use Rattle.slot_terms.specs.Places.{Places}
use Rattle.slot_places.specs.ProgramRows.{path_in, program_rows}
use Rattle.slot_places.specs.HeaderSlots as places
use Rattle.slot_controls.specs.Steps.{HeaderSlots}
use Rattle.slot_controls.specs.Callees.{Callees}
use Rattle.slot_parsers.specs.Parses.{heads_of}

-- the places of a program, with so many slots more
abbrev pub sight_of : Parts → (room : ℕ) → Places
sight_of p room = record { rows = program_rows p; headers = map path_in p.headers; next = slots_in p; size = slots_in p + room }

-- the slots of a header's fields
abbrev pub slots_at : places.HeaderSlots → HeaderSlots
slots_at h = record { first = h.first; count = length h.widths }

abbrev pub header_slots : Parts → List HeaderSlots
header_slots p = map slots_at (heads_of p)

-- in verify and compute checksum, where no action is called and no table applied; in compute checksum no register is in sight
abbrev pub bare_callees : Parts → List Cells → Callees
bare_callees p rs = record { actions = []; tables = []; registers = rs; headers = header_slots p }

-- in ingress and egress
abbrev pub program_callees : Parts → Callees
program_callees p = record { actions = p.actions; tables = p.tables; registers = p.registers; headers = header_slots p }
