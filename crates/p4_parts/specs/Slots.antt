-- The slots of a packet that waits between the halves of a passage: one for each value that the program declares. Read
-- `Parts` of the trees' meaning before it.
use Rattle.std.specs.Prelude.{ℕ, ◌+◌, List, [], ◌∷◌, length}
use Rattle.p4_meaning.specs.Standard.{standard_paths}
use Rattle.p4_meaning.specs.Parsing.{Header}
use Rattle.p4_meaning.specs.Parts.{Parts}

-- the fields of headers
abbrev pub header_slots : List Header → ℕ
header_slots [] = 0
header_slots (h ∷ hs) = length h.fields + header_slots hs

-- with the metadata and the standard metadata
abbrev pub slots_in : Parts → ℕ
slots_in p = length standard_paths + length p.metadata + header_slots p.headers
