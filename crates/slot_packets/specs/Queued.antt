-- Slots as a store: what waits between the halves. Read `Headers` before it, and `Pass` of the trees' meaning.
use Rattle.std.specs.Prelude.{◌≡◌, ℕ, List, Bool, Option, Some, None, is_some}
use Rattle.std.specs.Option.{option_map}
use Rattle.bit_values.specs.Bits.{Word, word}
use Rattle.p4_meaning.specs.Store.{Store}
use Rattle.p4_meaning.specs.Parts.{Parts}
use Rattle.p4_meaning.specs.Pass.{declared, is_declared_path, is_declared_header}
use Rattle.slot_terms.specs.Terms.{number_in, valid_at}
use Rattle.slot_terms.specs.Places.{Places, Place, place_at, header_number, Follows}

-- the word of a place that may be there
abbrev pub word_in : List ℕ → Option Place → Word
word_in slots None = word 1 0
word_in slots (Some r) = word r.width (number_in slots r.slot)

-- slots as a store, in which nothing is but what has a place
abbrev pub store_in : Places → List ℕ → List Bool → Store
store_in m slots valid =
    record {
      values = λ q. word_in slots (place_at m.rows q);
      headers = λ h. option_map (valid_at valid) (header_number m.headers h);
    }

-- the places are those of what a program declares
pub record ArePlacesOf (p : Parts) (m : Places) : Type 0 where
  pub paths : (q : List (List ℕ)) → is_declared_path p q ≡ is_some (place_at m.rows q)
  pub headers : (h : List (List ℕ)) → is_declared_header p.headers h ≡ is_some (header_number m.headers h)

-- what is left of a store that slots follow, where the variables of controls are forgotten, is the slots' own store
abbrev pub DeclaredIsSlots : Type 0
DeclaredIsSlots = (p : Parts) (m : Places) (slots : List ℕ) (valid : List Bool) (s : Store) → ArePlacesOf p m → Follows m slots valid s → declared p s ≡ store_in m slots valid
