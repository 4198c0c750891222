-- The code of an assignment does what the assignment means.
use Rattle.std.proofs.Common.{◌≡◌, ℕ, List, Bool, true, false, if◌then◌else◌, Some, refl, sym, ap, ◌∙◌, subst}
use Rattle.std.specs.Prelude.{slice_set}
use Rattle.bit_values.specs.Bits.{Word, word, IsWord}
use Rattle.bit_values.specs.Widths.{sound_width, cast_word}
use Rattle.p4_tree.specs.Tree.{Expr, assign}
use Rattle.p4_meaning.specs.Standard.{is_assignable}
use Rattle.p4_meaning.specs.Store.{Store, written, write}
use Rattle.p4_meaning.specs.Value.{value_of}
use Rattle.p4_meaning.specs.Statements.{Go, Run, in_store, assigned}
use Rattle.slot_terms.specs.Terms.{number_in, eval}
use Rattle.slot_terms.specs.Typed.{Typed, Gives}
use Rattle.slot_terms.specs.Places.{Place, Places, place_at, ShowsPlace, Follows, IsLaid, Fills, header_at}
use Rattle.slot_terms.specs.States.{State}
use Rattle.slot_statements.specs.Codes.{set, writes, put, exec}
use Rattle.slot_statements.specs.Runs.{Ends, Does}
use Rattle.slot_statements.proofs.StoreLemmas.{written_writable, written_fixed, sound_is, set_follows}

-- the width that a path's word has
width_is : (m : Places) (slots : List ℕ) (valid : List Bool) (s : Store) (p : List (List ℕ)) (r : Place) → Follows m slots valid s → place_at m.rows p ≡ Some r → (s.values p).width ≡ r.width
width_is m slots valid s p r follows is = ap (λ (w : Word). w.width) (follows.shows.values p r is).is

module _ (m : Places) (p : List (List ℕ)) (r : Place) (t : Typed) (laid : IsLaid m) (is : place_at m.rows p ≡ Some r) (may : is_assignable p ≡ true) where
  -- the write of a word that an expression gives
  write_ends : (s : State) (y : Run) (x : Word) (b : Bool) → Follows m s.slots s.valid y.store → (y.store.values p).width ≡ r.width → writes r.header s.valid ≡ b → Gives t s.slots s.valid (cast_word (sound_width r.width) x) → t.width ≡ r.width
      → Ends m m (exec (set r.slot r.header t.term) s) (in_store y (assigned y.store p x), Go)
  write_ends s y x b follows width b_is gives t_is =
      let n : ℕ = eval s.slots s.valid t.term in
      let w_is : cast_word (sound_width (y.store.values p).width) x ≡ word r.width n = ap (λ w. cast_word (sound_width w) x) width ∙ gives.is ∙ ap (λ w. word w n) t_is in
      let to : assigned y.store p x ≡ written (header_at s.valid r.header) y.store p (word r.width n) =
      ap (λ b. if b then write y.store p (cast_word (sound_width (y.store.values p).width) x) else y.store) may
      ∙ ap (λ w. write y.store p w) w_is
      ∙ ap (λ h. written h y.store p (word r.width n)) (follows.shows.values p r is).above in
      let word_is : IsWord (word r.width n) = subst IsWord (gives.is ∙ ap (λ w. word w n) t_is) gives.word in
      let go : (b : Bool) → writes r.header s.valid ≡ b → Follows m (if b then put s r.slot n else s).slots (if b then put s r.slot n else s).valid (written (header_at s.valid r.header) y.store p (word r.width n)) =
      λ b. elim b as (λ b. writes r.header s.valid ≡ b → Follows m (if b then put s r.slot n else s).slots (if b then put s r.slot n else s).valid (written (header_at s.valid r.header) y.store p (word r.width n))) [
        | true ↦ λ e. subst (λ z. Follows m (slice_set s.slots r.slot n) s.valid z) (sym (written_writable s.valid r.header y.store p (word r.width n) e)) (set_follows m s.slots s.valid y.store p r n laid follows is word_is)
        | false ↦ λ e. subst (λ z. Follows m s.slots s.valid z) (sym (written_fixed s.valid r.header y.store p (word r.width n) e)) follows
      ] in
      let kept : Follows m (if writes r.header s.valid then put s r.slot n else s).slots (if writes r.header s.valid then put s r.slot n else s).valid (assigned y.store p x) =
      subst (λ z. Follows m (if writes r.header s.valid then put s r.slot n else s).slots (if writes r.header s.valid then put s r.slot n else s).valid z) (sym to) (go (writes r.header s.valid) refl) in
      record { flow = refl; kept = kept; grown = λ g. kept }

pub assign_does : (m : Places) (p : List (List ℕ)) (r : Place) (at : ℕ) (e : Expr) (t : Typed) → IsLaid m → place_at m.rows p ≡ Some r → is_assignable p ≡ true → t.width ≡ sound_width r.width → Fills m e r.width t → Does m m (set r.slot r.header t.term) (assign at p e)
assign_does m p r at e t laid is may t_is fills calls s y follows =
    let width : (y.store.values p).width ≡ r.width = width_is m s.slots s.valid y.store p r follows is in
    let sees : ShowsPlace s.slots s.valid r y.store p = follows.shows.values p r is in
    let own : IsWord (word r.width (number_in s.slots r.slot)) = subst IsWord sees.is sees.word in
    subst (λ w. Ends m m (exec (set r.slot r.header t.term) s) (in_store y (assigned y.store p (value_of e w y.store)), Go)) (sym width)
    (write_ends m p r t laid is may s y (value_of e r.width y.store) (writes r.header s.valid) follows width refl (fills s.slots s.valid y.store follows.shows) (t_is ∙ sound_is r.width own.wide own.narrow))
