-- Where the fields of a header stand, when slots follow a store behind an `extract`, and which bits are emitted. Read
-- `Fields` before it, and `Parsing` of the trees' meaning; `Validity` and `Queued` after it.
use Rattle.std.specs.Prelude.{◌≡◌, ◌≢◌, ℕ, ◌+◌, ◌<◌, ◌≤◌, List, [], ◌∷◌, ◌++◌, map, length, Bool, true, false, Some, slice_set}
use Rattle.bit_values.specs.BitLists.{AreBits}
use Rattle.lex_text.specs.Names.{same_path, parent}
use Rattle.p4_meaning.specs.Store.{Store}
use Rattle.p4_meaning.specs.Parsing.{Field, Header, Reading, fields_taken, with_valid, fields_bits}
use Rattle.slot_terms.specs.Places.{Places, Place, place_at, header_number, Follows, IsLaid}
use Rattle.slot_packets.specs.Fields.{take_fields, slot_bits, AreWidths}

-- how many bits a field has
abbrev pub width_in : Field → ℕ
width_in f = f.width

-- the fields have slots from one on, one behind the other
abbrev pub FieldsAt : Places → (header : ℕ) → (path : List (List ℕ)) → List Field → (first : ℕ) → Type 0
FieldsAt m n p [] i = Unit {0}
FieldsAt m n p (f ∷ fs) i = (place_at m.rows (p ++ f.name ∷ []) ≡ Some (record { path = p ++ f.name ∷ []; slot = i; width = f.width; header = Some n })) × FieldsAt m n p fs (i + 1)

-- a header is laid out: it has a number, its fields have slots from one on, and no other place is of it
pub record IsHeaderAt (m : Places) (n : ℕ) (h : Header) (first : ℕ) : Type 0 where
  pub number : header_number m.headers h.path ≡ Some n
  pub widths : AreWidths (map width_in h.fields)
  pub fields : FieldsAt m n h.path h.fields first
  pub room : first + length h.fields ≤ m.size
  pub inside : (p : List (List ℕ)) (r : Place) → place_at m.rows p ≡ Some r → r.header ≡ Some n → (first ≤ r.slot) × (r.slot < first + length h.fields)
  pub own : (p : List (List ℕ)) (r : Place) → place_at m.rows p ≡ Some r → first ≤ r.slot → r.slot < first + length h.fields → r.header ≡ Some n
  pub parents : (p : List (List ℕ)) (r : Place) → place_at m.rows p ≡ Some r → r.header ≡ Some n → parent p ≡ h.path
  pub others : (p : List (List ℕ)) (r : Place) → place_at m.rows p ≡ Some r → r.header ≢ Some n → same_path h.path (parent p) ≡ false

-- where a header is laid out, slots that got its bits follow the store behind its `extract`
abbrev pub ExtractionFollows : Type 0
ExtractionFollows =
    (m : Places) (n : ℕ) (h : Header) (first : ℕ) (slots : List ℕ) (valid : List Bool) (r : Reading) → IsLaid m → IsHeaderAt m n h first → n < length valid → h.path ≢ [] → AreBits r.rest → Follows m slots valid r.store
    → Follows m (take_fields (map width_in h.fields) first r.rest slots) (slice_set valid n true) (with_valid h.path (fields_taken h.path h.fields r)).store

-- where a header is laid out and valid, the bits of its slots are the bits that its `emit` writes
abbrev pub EmissionFollows : Type 0
EmissionFollows =
    (m : Places) (n : ℕ) (h : Header) (first : ℕ) (slots : List ℕ) (valid : List Bool) (s : Store) → IsHeaderAt m n h first → Follows m slots valid s → s.headers h.path ≡ Some true
    → slot_bits (map width_in h.fields) first slots ≡ fields_bits h.path h.fields s
