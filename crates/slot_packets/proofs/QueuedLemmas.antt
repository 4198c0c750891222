-- Slots as a store.
use Rattle.std.proofs.Common.{◌≡◌, ℕ, List, Bool, if◌then◌else◌, Option, Some, None, refl, ap, ap₂, ◌∙◌}
use Rattle.std.specs.Prelude.{is_some}
use Rattle.std.specs.Option.{option_map}
use Rattle.bit_values.specs.Bits.{Word, word}
use Rattle.p4_meaning.specs.Store.{Store}
use Rattle.p4_meaning.specs.Parts.{Parts}
use Rattle.p4_meaning.specs.Pass.{declared}
use Rattle.slot_terms.specs.Terms.{valid_at}
use Rattle.slot_terms.specs.Places.{Places, Place, place_at, header_number, Follows}
use Rattle.slot_packets.specs.Queued.{word_in, store_in, ArePlacesOf, DeclaredIsSlots}

module _ (p : Parts) (m : Places) (slots : List ℕ) (valid : List Bool) (s : Store) (are : ArePlacesOf p m) (follows : Follows m slots valid s) where
  value_is : (q : List (List ℕ)) (o : Option Place) → place_at m.rows q ≡ o → (if is_some o then s.values q else word 1 0) ≡ word_in slots o
  value_is q None e = refl
  value_is q (Some r) e = (follows.shows.values q r e).is

  header_is : (h : List (List ℕ)) (o : Option ℕ) → header_number m.headers h ≡ o → (if is_some o then s.headers h else None) ≡ option_map (valid_at valid) o
  header_is h None e = refl
  header_is h (Some n) e = follows.shows.headers h n e

  values_are : (declared p s).values ≡ (store_in m slots valid).values
  values_are i q = (ap (λ b. if b then s.values q else word 1 0) (are.paths q) ∙ value_is q (place_at m.rows q) refl) i

  headers_are : (declared p s).headers ≡ (store_in m slots valid).headers
  headers_are i h = (ap (λ b. if b then s.headers h else None) (are.headers h) ∙ header_is h (header_number m.headers h) refl) i

  pub declared_is : declared p s ≡ store_in m slots valid
  declared_is = ap₂ (λ (f : List (List ℕ) → Word) (g : List (List ℕ) → Option Bool). (let t : Store = record { values = f; headers = g } in t)) values_are headers_are

pub declared_is_slots : DeclaredIsSlots
declared_is_slots p m slots valid s are follows = declared_is p m slots valid s are follows
