-- What a path reads, by its place.
use Rattle.std.proofs.Common.{◌≡◌, ℕ, List, Bool, true, false, if◌then◌else◌, Option, Some, None, refl, ap, ◌∙◌}
use Rattle.std.proofs.lemmas.Nat.{pow_pos}
use Rattle.bit_values.specs.Bits.{Word, word, IsWord}
use Rattle.lex_text.specs.Names.{parent}
use Rattle.p4_meaning.specs.Store.{Store, shown, read}
use Rattle.slot_terms.specs.Terms.{number_in, valid_at, eval}
use Rattle.slot_terms.specs.Typed.{Gives}
use Rattle.slot_terms.specs.Places.{Place, ShowsPlace, header_at, place_term}

pub shown-width : (h : Option Bool) (w : Word) → (shown h w).width ≡ w.width
shown-width None w = refl
shown-width (Some true) w = refl
shown-width (Some false) w = refl

shown_word : (b : Bool) (w v : ℕ) → shown (Some b) (word w v) ≡ word w (if b then v else 0)
shown_word true w v = refl
shown_word false w v = refl

shown_is : (slots : List ℕ) (valid : List Bool) (h : Option ℕ) (w i : ℕ) → shown (header_at valid h) (word w (number_in slots i)) ≡ word w (eval slots valid (place_term i h))
shown_is slots valid None w i = refl
shown_is slots valid (Some n) w i = shown_word (valid_at valid n) w (number_in slots i)

word_shown : (h : Option Bool) (w : Word) → IsWord w → IsWord (shown h w)
word_shown None w is = is
word_shown (Some true) w is = is
word_shown (Some false) w is = record { wide = is.wide; narrow = is.narrow; in_range = pow_pos w.width }

pub read_gives : (slots : List ℕ) (valid : List Bool) (r : Place) (s : Store) (p : List (List ℕ)) → ShowsPlace slots valid r s p → Gives (record { term = place_term r.slot r.header; width = r.width }) slots valid (read s p)
read_gives slots valid r s p sees = record {
  is = ap (λ h. shown h (s.values p)) sees.above ∙ ap (shown (header_at valid r.header)) sees.is ∙ shown_is slots valid r.header r.width r.slot;
  word = word_shown (s.headers (parent p)) (s.values p) sees.word;
}

pub read-width : (slots : List ℕ) (valid : List Bool) (r : Place) (s : Store) (p : List (List ℕ)) → ShowsPlace slots valid r s p → (read s p).width ≡ r.width
read-width slots valid r s p sees = shown-width (s.headers (parent p)) (s.values p) ∙ ap (λ (w : Word). w.width) sees.is
