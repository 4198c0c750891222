-- Words that are written to places, and words that terms give.
use Rattle.std.proofs.Common.{◌≡◌, ℕ, ◌%◌, ◌^◌, List, [], ◌∷◌, map, Bool, true, false, if◌then◌else◌, Some, refl, sym, ap, ap₂, ◌∙◌, subst, bit_and}
use Rattle.std.specs.Prelude.{slice_set}
use Rattle.bit_values.specs.Bits.{Word, word, IsWord}
use Rattle.bit_values.specs.Widths.{sound_width, cast_word}
use Rattle.bit_values.proofs.BitsLemmas.{cast_of_small}
use Rattle.p4_tree.specs.Tree.{Expr}
use Rattle.p4_meaning.specs.Standard.{is_assignable}
use Rattle.p4_meaning.specs.Store.{Store, written, write}
use Rattle.p4_meaning.specs.Value.{value_of}
use Rattle.p4_meaning.specs.Statements.{assigned}
use Rattle.slot_terms.specs.Terms.{number_in, eval}
use Rattle.slot_terms.specs.Typed.{Typed, Gives, mask_of}
use Rattle.slot_terms.specs.Places.{Place, Places, place_at, ShowsPlace, Follows, IsLaid, Means, header_at}
use Rattle.slot_terms.specs.States.{State}
use Rattle.slot_terms.proofs.MaskedLemmas.{masked, cut_word}
use Rattle.slot_statements.specs.Codes.{writes, put}
use Rattle.slot_statements.specs.Tables.{key_word}
use Rattle.slot_statements.proofs.StoreLemmas.{written_writable, written_fixed, sound_is, set_follows}
use Rattle.slot_controls.specs.Steps.{stored, words_at}
use Rattle.slot_controls.specs.StepRuns.{MeanAll, target_at}

-- ---- writes

module _ (m : Places) (p : List (List ℕ)) (r : Place) (laid : IsLaid m) (is : place_at m.rows p ≡ Some r) (may : is_assignable p ≡ true) where
  -- the word, cut or widened to its place
  own_word : (s : State) (y : Store) → Follows m s.slots s.valid y → IsWord (word r.width (number_in s.slots r.slot))
  own_word s y follows = (let sees : ShowsPlace s.slots s.valid r y p = follows.shows.values p r is in subst IsWord sees.is sees.word)

  stored_at : (s : State) (y : Store) (n : ℕ) (b : Bool) → Follows m s.slots s.valid y → IsWord (word r.width n) → writes r.header s.valid ≡ b
      → Follows m (if b then put s r.slot n else s).slots (if b then put s r.slot n else s).valid (written (header_at s.valid r.header) y p (word r.width n))
  stored_at s y n true follows word_is b =
      subst (λ z. Follows m (slice_set s.slots r.slot n) s.valid z) (sym (written_writable s.valid r.header y p (word r.width n) b)) (set_follows m s.slots s.valid y p r n laid follows is word_is)
  stored_at s y n false follows word_is b = subst (λ z. Follows m s.slots s.valid z) (sym (written_fixed s.valid r.header y p (word r.width n) b)) follows

  -- what is written to a place is what an assignment of a word writes
  pub stored_follows : (s : State) (y : Store) (x : Word) → Follows m s.slots s.valid y → Follows m (stored (target_at r) x.value s).slots (stored (target_at r) x.value s).valid (assigned y p x)
  stored_follows s y x follows =
      let own : IsWord (word r.width (number_in s.slots r.slot)) = own_word s y follows in
      let n : ℕ = bit_and x.value (mask_of (sound_width r.width)) in
      let cut : n ≡ x.value % 2 ^ r.width = masked r.width x.value (mask_of (sound_width r.width)) (ap mask_of (sound_is r.width own.wide own.narrow)) own.narrow in
      let word_is : IsWord (word r.width n) = subst (λ v. IsWord (word r.width v)) (sym cut) (cut_word r.width x.value own.wide own.narrow) in
      let width : sound_width (y.values p).width ≡ r.width = ap (λ (w : Word). sound_width w.width) (follows.shows.values p r is).is ∙ sound_is r.width own.wide own.narrow in
      let x_is : cast_word (sound_width (y.values p).width) x ≡ word r.width n = ap (λ w. cast_word w x) width ∙ ap (word r.width) (sym cut) in
      let to : assigned y p x ≡ written (header_at s.valid r.header) y p (word r.width n) =
      ap (λ b. if b then write y p (cast_word (sound_width (y.values p).width) x) else y) may ∙ ap (write y p) x_is ∙ ap (λ h. written h y p (word r.width n)) (follows.shows.values p r is).above in
      subst (λ z. Follows m (stored (target_at r) x.value s).slots (stored (target_at r) x.value s).valid z) (sym to) (stored_at s y n (writes r.header s.valid) follows word_is refl)

-- to what no statement may write nothing is written
pub none_assigned : (y : Store) (p : List (List ℕ)) (x : Word) → is_assignable p ≡ false → assigned y p x ≡ y
none_assigned y p x e = ap (λ b. if b then write y p (cast_word (sound_width (y.values p).width) x) else y) e

-- ---- words

-- the number that a term gives
pub number_is : (m : Places) (e : Expr) (w : ℕ) (t : Typed) (s : State) (y : Store) → Means m e w t → Follows m s.slots s.valid y → eval s.slots s.valid t.term ≡ (value_of e w y).value
number_is m e w t s y means follows = sym (ap (λ (x : Word). x.value) (means s.slots s.valid y follows.shows).is)

-- the word that a term gives
pub word_is : (m : Places) (e : Expr) (w : ℕ) (t : Typed) (s : State) (y : Store) → Means m e w t → Follows m s.slots s.valid y → key_word s t ≡ value_of e w y
word_is m e w t s y means follows =
    let gives : Gives t s.slots s.valid (value_of e w y) = means s.slots s.valid y follows.shows in
    let n : ℕ = eval s.slots s.valid t.term in
    let is : IsWord (word t.width n) = subst IsWord gives.is gives.word in
    ap (λ v. cast_word v (word 128 n)) (sound_is t.width is.wide is.narrow) ∙ ap (word t.width) (cast_of_small t.width n is.in_range) ∙ sym gives.is

pub words_are : (m : Places) (es : List Expr) (ts : List Typed) (s : State) (y : Store) → MeanAll m es ts → Follows m s.slots s.valid y → words_at s ts ≡ map (λ e. value_of e 0 y) es
words_are m [] [] s y mean follows = refl
words_are m [] (t ∷ ts) s y mean follows = absurd mean
words_are m (e ∷ es) [] s y mean follows = absurd mean
words_are m (e ∷ es) (t ∷ ts) s y mean follows = ap₂ (λ a b. a ∷ b) (word_is m e 0 t s y mean.0 follows) (words_are m es ts s y mean.1 follows)
