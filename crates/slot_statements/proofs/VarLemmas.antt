-- A variable has the next slot.
use Rattle.std.proofs.Common.{◌≡◌, ◌≢◌, ◌⊎◌, ⊎_elim, ℕ, ◌<◌, length, length-set, List, [], ◌∷◌, Bool, true, false, Option, Some, None, refl, sym, ap, ◌∙◌, subst, arith}
use Rattle.std.specs.Prelude.{slice_set}
use Rattle.bit_values.specs.Bits.{word, IsWord}
use Rattle.bit_values.specs.Widths.{sound_width}
use Rattle.lex_text.specs.Names.{same_path}
use Rattle.p4_tree.specs.Tree.{Expr, var}
use Rattle.p4_tree.specs.declared.statement.PTy.{PTy}
use Rattle.p4_meaning.specs.Store.{Store, set_value}
use Rattle.p4_meaning.specs.Value.{width_of}
use Rattle.p4_meaning.specs.Statements.{start_of}
use Rattle.slot_terms.specs.Terms.{eval}
use Rattle.slot_terms.specs.Typed.{Typed}
use Rattle.slot_terms.specs.Places.{Place, Places, place_at, ShowsPlace, Follows, IsLaid, header_number}
use Rattle.slot_statements.specs.Codes.{set}
use Rattle.slot_statements.specs.Runs.{Does}
use Rattle.slot_statements.specs.Starts.{Starts, IsNew}
use Rattle.slot_terms.proofs.LaidLemmas.{path_decides, added_or_old, added_laid}
use Rattle.slot_statements.proofs.StoreLemmas.{sees_other, sees_same}

-- the row of a variable
abbrev pub new_row : (x : List ℕ) (width slot : ℕ) → Place
new_row x width slot = record { path = x ∷ []; slot = slot; width = width; header = None }

module _ (m n : Places) (x : List ℕ) (w i : ℕ) (laid : IsLaid m) (new : IsNew m n x w i) where
  old_or : (q : List (List ℕ)) (t : Place) → place_at n.rows q ≡ Some t → (place_at m.rows q ≡ Some t) ⊎ ((t ≡ new_row x w i) × (q ≡ x ∷ []))
  old_or = added_or_old m n (x ∷ []) w None i new

  pub new_laid : IsLaid n
  new_laid = added_laid m n (x ∷ []) w None i new laid

  module _ (slots : List ℕ) (valid : List Bool) (s : Store) (v : ℕ) (follows : Follows m slots valid s) (word_is : IsWord (word w v)) where
    -- what stood there before is left alone
    old_sees : (q : List (List ℕ)) (t : Place) (b : Bool) → place_at m.rows q ≡ Some t → same_path (x ∷ []) q ≡ b → ShowsPlace (slice_set slots i v) valid t (set_value s (x ∷ []) (word w v)) q
    old_sees q t true there e =
        let k : x ∷ [] ≡ q = (path_decides (x ∷ []) q).0 e in
        absurd (let h : None ≡ Some t = sym new.unknown ∙ subst (λ z. place_at m.rows z ≡ Some t) (sym k) there in cc h)
    old_sees q t false there e =
        let apart : t.slot ≢ i = λ h. omega (arith, laid.below q t there, new.at, h) in
        sees_other slots valid s (x ∷ []) (word w v) i v q t e apart (follows.shows.values q t there)

    pub var_kept : Follows m (slice_set slots i v) valid (set_value s (x ∷ []) (word w v))
    var_kept = record {
      shows = record { values = λ q t there. old_sees q t (same_path (x ∷ []) q) there refl; headers = follows.shows.headers };
      bare = follows.bare;
      room = length-set slots i v ∙ follows.room;
    }

    new_sees : (q : List (List ℕ)) (t : Place) → t ≡ new_row x w i → q ≡ x ∷ [] → ShowsPlace (slice_set slots i v) valid t (set_value s (x ∷ []) (word w v)) q
    new_sees q t e k =
        let lt : i < length slots = omega (arith, new.at, new.room, follows.room) in
        subst (λ z. ShowsPlace (slice_set slots i v) valid z (set_value s (x ∷ []) (word w v)) q) (sym e)
        (subst (λ z. ShowsPlace (slice_set slots i v) valid (new_row x w i) (set_value s (x ∷ []) (word w v)) z) (sym k)
        (sees_same slots valid s (x ∷ []) (new_row x w i) v (x ∷ []) ((path_decides (x ∷ []) (x ∷ [])).1 refl) lt word_is follows.bare))

    pub var_grown : Follows n (slice_set slots i v) valid (set_value s (x ∷ []) (word w v))
    var_grown = record {
      shows = record {
        values = λ q t there. ⊎_elim
            (λ (o : place_at m.rows q ≡ Some t). var_kept.shows.values q t o)
            (λ (o : (t ≡ new_row x w i) × (q ≡ x ∷ [])). new_sees q t o.0 o.1)
            (old_or q t there);
        headers = λ h k there. follows.shows.headers h k (subst (λ hs. header_number hs h ≡ Some k) new.headers there);
      };
      bare = follows.bare;
      room = length-set slots i v ∙ follows.room ∙ sym new.size;
    }

pub var_does :
    (m n : Places) (x : List ℕ) (w i at : ℕ) (ty : PTy) (e : Option Expr) (t : Typed) → IsLaid m → IsNew m n x w i → w ≡ sound_width (width_of ty) → t.width ≡ sound_width (width_of ty) → Starts m ty e t
    → Does m n (set i None t.term) (var at ty x e)
var_does m n x w i at ty e t laid new w_is t_is starts calls s y follows =
    let gives = starts s.slots s.valid y.store follows.shows in
    let v : ℕ = eval s.slots s.valid t.term in
    let is : start_of ty e y.store ≡ word w v = gives.is ∙ ap (λ z. word z v) (t_is ∙ sym w_is) in
    let word_is : IsWord (word w v) = subst IsWord is gives.word in
    record {
      flow = refl;
      kept = subst (λ z. Follows m (slice_set s.slots i v) s.valid (set_value y.store (x ∷ []) z)) (sym is) (var_kept m n x w i laid new s.slots s.valid y.store v follows word_is);
      grown = λ g. subst (λ z. Follows n (slice_set s.slots i v) s.valid (set_value y.store (x ∷ []) z)) (sym is) (var_grown m n x w i laid new s.slots s.valid y.store v follows word_is);
    }
