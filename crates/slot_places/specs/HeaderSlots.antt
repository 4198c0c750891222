-- Headers over slots: where their fields begin, and how wide these are. Read `ProgramPlaces` before it.
use Rattle.std.specs.Prelude.{ℕ, ◌+◌, List, [], ◌∷◌, map, length}
use Rattle.p4_meaning.specs.Parsing.{Header}
use Rattle.slot_packets.specs.Headers.{width_in}
use Rattle.slot_places.specs.declared.header.SlotHeader as code_header

-- the first slot of a header's fields, and their widths
pub record HeaderSlots : Type 0 where
  pub first : ℕ
  pub widths : List ℕ

-- the same as the code has it
abbrev pub header_slots_of : code_header.SlotHeader → HeaderSlots
header_slots_of h = record { first = h.first; widths = h.widths.items }

-- those of headers, the first of which has its fields from a slot on; their numbers are their places in the list
abbrev pub slots_of_headers : List Header → (first : ℕ) → List HeaderSlots
slots_of_headers [] i = []
slots_of_headers (h ∷ hs) i = record { first = i; widths = map width_in h.fields } ∷ slots_of_headers hs (i + length h.fields)
