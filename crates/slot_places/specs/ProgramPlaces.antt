-- The places of a program, when there are some, and what holds of them. Read `ProgramRows` before it, `Headers` and
-- `Queued` of `slot_packets`, and `Slots` of `p4_parts`.
use Rattle.std.specs.Prelude.{◌≡◌, ◌≢◌, ℕ, ◌+◌, List, [], ◌∷◌, map, length, Bool, true, false, not, ◌&&◌, ◌||◌, is_none, nat_le}
use Rattle.lex_text.specs.Names.{same_path}
use Rattle.p4_meaning.specs.Standard.{standard_root, metadata_root}
use Rattle.p4_meaning.specs.Parsing.{Header}
use Rattle.p4_meaning.specs.Parts.{Parts}
use Rattle.p4_parts.specs.Slots.{slots_in}
use Rattle.slot_terms.specs.Places.{Place, Places, place_at, header_number, IsLaid}
use Rattle.slot_terms.specs.declared.fault.Fault.{Fault}
use Rattle.slot_terms.specs.declared.fault.Fault.TheVariants as fault
use Rattle.slot_packets.specs.Fields.{AreWidths}
use Rattle.slot_packets.specs.Headers.{width_in, IsHeaderAt}
use Rattle.slot_packets.specs.Queued.{ArePlacesOf}
use Rattle.slot_places.specs.ProgramRows.{path_in, program_rows, first_header}

-- no two rows have one path
abbrev pub are_apart : List Place → Bool
are_apart [] = true
are_apart (r ∷ rs) = is_none (place_at rs r.path) && are_apart rs

-- below the path stands what is no field of a header: variables, the standard metadata, the metadata
abbrev pub is_root : List (List ℕ) → Bool
is_root p = same_path [] p || (same_path (standard_root ∷ []) p || same_path (metadata_root ∷ []) p)

-- no two headers have one path, and none has that of a root
abbrev pub are_headers : List (List (List ℕ)) → Bool
are_headers [] = true
are_headers (h ∷ hs) = (not (is_root h) && is_none (header_number hs h)) && are_headers hs

-- no path of a program is declared twice
abbrev pub is_apart : Parts → Bool
is_apart p = are_apart (program_rows p) && are_headers (map path_in p.headers)

-- a program has places with so many slots more for variables: its paths are apart, and 32 bits number the slots
abbrev pub can_place : Parts → (room : ℕ) → Bool
can_place p room = is_apart p && nat_le (slots_in p + room) 4294967295

-- `Unknown` says that the program has no such places; want of memory may always come
abbrev pub BlamesParts : Parts → (room : ℕ) → Fault → Type 0
BlamesParts p room fault.NoMemory = Unit {0}
BlamesParts p room fault.Unknown = can_place p room ≡ false

-- numbers can have these widths, as a test
abbrev pub are_widths : List ℕ → Bool
are_widths [] = true
are_widths (w ∷ ws) = (nat_le 1 w && nat_le w 128) && are_widths ws

-- numbers can have the widths of a program's fields
abbrev pub HeaderWidths : List Header → Type 0
HeaderWidths [] = Unit {0}
HeaderWidths (h ∷ hs) = AreWidths (map width_in h.fields) × HeaderWidths hs

-- the places are those of a program, with so many slots more for variables
pub record ArePlaced (p : Parts) (room : ℕ) (m : Places) : Type 0 where
  pub can : can_place p room ≡ true
  pub rows : m.rows ≡ program_rows p
  pub headers : m.headers ≡ map path_in p.headers
  pub next : m.next ≡ slots_in p
  pub size : m.size ≡ slots_in p + room
  pub metadata : AreWidths (map width_in p.metadata)
  pub widths : HeaderWidths p.headers

-- headers have paths and are laid out: their numbers are those from one on, and their fields' slots follow one another
abbrev pub AreHeadersAt : Places → List Header → (number first : ℕ) → Type 0
AreHeadersAt m [] n i = Unit {0}
AreHeadersAt m (h ∷ hs) n i = (IsHeaderAt m n h i × (h.path ≢ [])) × AreHeadersAt m hs (n + 1) (i + length h.fields)

-- each header of a program is laid out
abbrev pub AreHeadersOf : Parts → Places → Type 0
AreHeadersOf p m = AreHeadersAt m p.headers 0 (first_header p)

-- the paths that a program declares are those that have places, and no two have one slot; and each header is laid out under
-- its number
pub record AreProgramPlaces (p : Parts) (m : Places) : Type 0 where
  pub laid : IsLaid m
  pub declared : ArePlacesOf p m
  pub headers : AreHeadersOf p m
  pub paths : m.headers ≡ map path_in p.headers
