-- A path that gets the next slot: places stay laid out, and each place behind is one before, or the new one.
use Rattle.std.proofs.Common.{◌≡◌, ◌⊎◌, inl, inr, ⊎_elim, ℕ, List, [], ◌∷◌, ◌++◌, Bool, true, false, if◌then◌else◌, Option, Some, None, refl, sym, ap, ◌∙◌, subst, arith, Decides}
use Rattle.std.proofs.lemmas.Slice.Eq.{slice_eq-Decides, bytes_eq-Decides}
use Rattle.lex_text.specs.Names.{same_path}
use Rattle.slot_terms.specs.Places.{Place, Places, place_at, IsLaid, IsAdded}

pub path_decides : (p q : List (List ℕ)) → Decides (same_path p q) (p ≡ q)
path_decides p q = slice_eq-Decides bytes_eq-Decides p q (same_path p q) refl

pub some_is : {A : Type 0} {x y : A} → Some x ≡ Some y → x ≡ y
some_is {A} {x} {y} e = ap (λ (o : Option A). (elim o [ None ↦ x | Some z ↦ z ])) e

-- the first one, where there is one, else the second
abbrev pub or_else : Option Place → Option Place → Option Place
or_else None o = o
or_else (Some t) o = Some t

place_step : (b : Bool) (r : Place) (x y o : Option Place) → x ≡ or_else y o → (if b then Some r else x) ≡ or_else (if b then Some r else y) o
place_step true r x y o e = refl
place_step false r x y o e = e

pub place_at-append : (rs : List Place) (row : Place) (q : List (List ℕ)) → place_at (rs ++ row ∷ []) q ≡ or_else (place_at rs q) (place_at (row ∷ []) q)
place_at-append [] row q = refl
place_at-append (r ∷ rs) row q = place_step (same_path r.path q) r (place_at (rs ++ row ∷ []) q) (place_at rs q) (place_at (row ∷ []) q) (place_at-append rs row q)

-- the one row that is looked at
one_row : (row t : Place) (q : List (List ℕ)) (b : Bool) → same_path row.path q ≡ b → (if b then Some row else None) ≡ Some t → (t ≡ row) × (q ≡ row.path)
one_row row t q true e h = (sym (some_is h), sym ((path_decides row.path q).0 e))
one_row row t q false e h = absurd (cc h)

either : (rs : List Place) (row t : Place) (q : List (List ℕ)) (o : Option Place) → place_at rs q ≡ o → or_else o (place_at (row ∷ []) q) ≡ Some t → (place_at rs q ≡ Some t) ⊎ ((t ≡ row) × (q ≡ row.path))
either rs row t q None e h = inr (one_row row t q (same_path row.path q) refl h)
either rs row t q (Some u) e h = inl (e ∙ h)

-- a place behind is one before, or the new one
pub old_or_new : (rs : List Place) (row t : Place) (q : List (List ℕ)) → place_at (rs ++ row ∷ []) q ≡ Some t → (place_at rs q ≡ Some t) ⊎ ((t ≡ row) × (q ≡ row.path))
old_or_new rs row t q h = either rs row t q (place_at rs q) refl (sym (place_at-append rs row q) ∙ h)

module _ (m n : Places) (p : List (List ℕ)) (w : ℕ) (h : Option ℕ) (i : ℕ) (added : IsAdded m n p w h i) where
  -- the row that is added
  abbrev pub added_row : Place
  added_row = record { path = p; slot = i; width = w; header = h }

  pub added_or_old : (q : List (List ℕ)) (t : Place) → place_at n.rows q ≡ Some t → (place_at m.rows q ≡ Some t) ⊎ ((t ≡ added_row) × (q ≡ p))
  added_or_old q t e = old_or_new m.rows added_row t q (subst (λ rs. place_at rs q ≡ Some t) added.rows e)

  slot_of_added : (t : Place) → t ≡ added_row → t.slot ≡ m.next
  slot_of_added t e = ap (λ (x : Place). x.slot) e ∙ added.at

  pub added_laid : IsLaid m → IsLaid n
  added_laid laid = record {
    below = λ q t e. ⊎_elim
        (λ (o : place_at m.rows q ≡ Some t). omega (arith, laid.below q t o, added.next))
        (λ (o : (t ≡ added_row) × (q ≡ p)). omega (arith, slot_of_added t o.0, added.next))
        (added_or_old q t e);
    single = λ x y r t a b e. ⊎_elim
        (λ (c : place_at m.rows x ≡ Some r). ⊎_elim
        (λ (d : place_at m.rows y ≡ Some t). laid.single x y r t c d e)
        (λ (d : (t ≡ added_row) × (y ≡ p)). absurd (omega (arith, laid.below x r c, slot_of_added t d.0, e)))
        (added_or_old y t b))
        (λ (c : (r ≡ added_row) × (x ≡ p)). ⊎_elim
        (λ (d : place_at m.rows y ≡ Some t). absurd (omega (arith, laid.below y t d, slot_of_added r c.0, e)))
        (λ (d : (t ≡ added_row) × (y ≡ p)). c.1 ∙ sym d.1)
        (added_or_old y t b))
        (added_or_old x r a);
    within = omega (arith, added.room, added.next, added.size);
  }
