-- A slot that gets a number follows a store in which its path gets the word.
use Rattle.std.proofs.Common.{◌≡◌, ◌≢◌, ℕ, zero, suc, ◌<◌, ◌≤◌, length, List, Bool, true, false, if◌then◌else◌, Option, Some, None, refl, sym, ap, ◌∙◌, subst, arith}
use Rattle.std.specs.Prelude.{slice_set}
use Rattle.std.proofs.lemmas.List.{get_or-set_same, get_or-set_other}
use Rattle.std.proofs.Common.{length-set}
use Rattle.std.proofs.lemmas.Bool.Decides.{nat_tests}
use Rattle.bit_values.specs.Bits.{Word, word, IsWord}
use Rattle.bit_values.specs.Widths.{sound_width}
use Rattle.lex_text.specs.Names.{same_path, parent}
use Rattle.p4_meaning.specs.Store.{Store, set_value, written}
use Rattle.slot_terms.specs.Places.{Place, Places, place_at, ShowsPlace, Follows, IsLaid, header_at}
use Rattle.slot_terms.proofs.LaidLemmas.{path_decides, some_is}
use Rattle.slot_statements.specs.Codes.{writes}

pub written_writable : (valid : List Bool) (h : Option ℕ) (s : Store) (p : List (List ℕ)) (w : Word) → writes h valid ≡ true → written (header_at valid h) s p w ≡ set_value s p w
written_writable valid None s p w e = refl
written_writable valid (Some n) s p w e = ap (λ b. written (Some b) s p w) e

pub written_fixed : (valid : List Bool) (h : Option ℕ) (s : Store) (p : List (List ℕ)) (w : Word) → writes h valid ≡ false → written (header_at valid h) s p w ≡ s
written_fixed valid None s p w e = absurd (cc e)
written_fixed valid (Some n) s p w e = ap (λ b. written (Some b) s p w) e

pub sound_is : (w : ℕ) → 1 ≤ w → w ≤ 128 → sound_width w ≡ w
sound_is zero wide narrow = absurd (omega (arith, wide))
sound_is (suc w) wide narrow = grind (arith, nat_tests, narrow)

-- what a path has, of which another one is written
other_value : (s : Store) (p : List (List ℕ)) (w : Word) (q : List (List ℕ)) → same_path p q ≡ false → (set_value s p w).values q ≡ s.values q
other_value s p w q e = ap (λ b. if b then w else s.values q) e

same_value : (s : Store) (p : List (List ℕ)) (w : Word) (q : List (List ℕ)) → same_path p q ≡ true → (set_value s p w).values q ≡ w
same_value s p w q e = ap (λ b. if b then w else s.values q) e

pub sees_other : (slots : List ℕ) (valid : List Bool) (s : Store) (p : List (List ℕ)) (w : Word) (i v : ℕ) (q : List (List ℕ)) (t : Place) → same_path p q ≡ false → t.slot ≢ i → ShowsPlace slots valid t s q → ShowsPlace (slice_set slots i v) valid t (set_value s p w) q
sees_other slots valid s p w i v q t e apart old = record {
  is = other_value s p w q e ∙ old.is ∙ ap (word t.width) (sym (get_or-set_other slots i t.slot v 0 apart));
  word = rw (other_value s p w q e) old.word;
  above = old.above;
}

pub sees_same : (slots : List ℕ) (valid : List Bool) (s : Store) (p : List (List ℕ)) (t : Place) (v : ℕ) (q : List (List ℕ)) → same_path p q ≡ true → t.slot < length slots → IsWord (word t.width v) → s.headers (parent q) ≡ header_at valid t.header → ShowsPlace (slice_set slots t.slot v) valid t (set_value s p (word t.width v)) q
sees_same slots valid s p t v q e lt word_is above = record {
  is = same_value s p (word t.width v) q e ∙ ap (word t.width) (sym (get_or-set_same slots t.slot v 0 lt));
  word = rw (same_value s p (word t.width v) q e) word_is;
  above = above;
}

-- the slot of a place gets a number
module _ (m : Places) (slots : List ℕ) (valid : List Bool) (s : Store) (p : List (List ℕ)) (r : Place) (v : ℕ)
    (laid : IsLaid m) (follows : Follows m slots valid s) (is : place_at m.rows p ≡ Some r) (word_is : IsWord (word r.width v)) where
  pub set_sees : (q : List (List ℕ)) (t : Place) (b : Bool) → place_at m.rows q ≡ Some t → same_path p q ≡ b → ShowsPlace (slice_set slots r.slot v) valid t (set_value s p (word r.width v)) q
  set_sees q t true there e =
      let k : p ≡ q = (path_decides p q).0 e in
      let same : r ≡ t = some_is (sym is ∙ subst (λ x. place_at m.rows x ≡ Some t) (sym k) there) in
      let lt : r.slot < length slots = omega (arith, laid.below p r is, laid.within, follows.room) in
      let above : s.headers (parent q) ≡ header_at valid r.header = subst (λ x. s.headers (parent x) ≡ header_at valid r.header) k (follows.shows.values p r is).above in
      subst (λ x. ShowsPlace (slice_set slots r.slot v) valid x (set_value s p (word r.width v)) q) same
      (sees_same slots valid s p r v q e lt word_is above)
  set_sees q t false there e =
      let apart : t.slot ≢ r.slot = λ h. let k : same_path p q ≡ true = (path_decides p q).1 (laid.single p q r t is there (sym h)) in cc in
      sees_other slots valid s p (word r.width v) r.slot v q t e apart (follows.shows.values q t there)

  pub set_follows : Follows m (slice_set slots r.slot v) valid (set_value s p (word r.width v))
  set_follows = record {
    shows = record { values = λ q t there. set_sees q t (same_path p q) there refl; headers = follows.shows.headers };
    bare = follows.bare;
    room = length-set slots r.slot v ∙ follows.room;
  }
