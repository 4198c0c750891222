-- Which slots the paths of a program have: those of the standard metadata first, then the metadata, then the fields of each
-- header. Read `Parts` of the trees' meaning before it, and `Places` of `slot_terms`; `ProgramPlaces` after it.
use Rattle.std.specs.Prelude.{ℕ, ◌+◌, List, [], ◌∷◌, ◌++◌, length, Option, Some, None}
use Rattle.p4_meaning.specs.Standard.{metadata_root, ingress_port, egress_spec, egress_port, packet_length, checksum_error, parser_error, standard_paths}
use Rattle.p4_meaning.specs.Parsing.{Field, Header}
use Rattle.p4_meaning.specs.Parts.{Parts}
use Rattle.slot_terms.specs.Places.{Place}

-- the path of a header
abbrev pub path_in : Header → List (List ℕ)
path_in h = h.path

-- a row, and that of a path that is no header's field
abbrev pub row_of : (path : List (List ℕ)) → (slot width : ℕ) → (header : Option ℕ) → Place
row_of p i w h = record { path = p; slot = i; width = w; header = h }

abbrev pub plain_row : (path : List (List ℕ)) → (slot width : ℕ) → Place
plain_row p i w = row_of p i w None

-- the standard metadata has the first six slots
abbrev pub standard_rows : List Place
standard_rows =
    plain_row ingress_port 0 9
    ∷ plain_row egress_spec 1 9
    ∷ plain_row egress_port 2 9
    ∷ plain_row packet_length 3 32
    ∷ plain_row checksum_error 4 1
    ∷ plain_row parser_error 5 2
    ∷ []

-- fields below a path have slots from one on; the path may be that of the header of a number
abbrev pub field_rows : (above : List (List ℕ)) → Option ℕ → List Field → (first : ℕ) → List Place
field_rows above h [] i = []
field_rows above h (f ∷ fs) i = row_of (above ++ f.name ∷ []) i f.width h ∷ field_rows above h fs (i + 1)

-- the fields of headers, whose numbers are those from one on
abbrev pub header_rows : List Header → (number first : ℕ) → List Place
header_rows [] n i = []
header_rows (h ∷ hs) n i = field_rows h.path (Some n) h.fields i ++ header_rows hs (n + 1) (i + length h.fields)

-- the first slot of the metadata, and of the first header's fields
abbrev pub first_metadata : ℕ
first_metadata = length standard_paths

abbrev pub first_header : Parts → ℕ
first_header p = first_metadata + length p.metadata

-- all that a program declares
abbrev pub program_rows : Parts → List Place
program_rows p = standard_rows ++ (field_rows (metadata_root ∷ []) None p.metadata first_metadata ++ header_rows p.headers 0 (first_header p))
