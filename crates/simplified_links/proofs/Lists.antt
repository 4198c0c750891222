-- Lists side by side, and lists that are made from numbers.
use Rattle.std.proofs.Common.{◌≡◌, ℕ, zero, suc, ◌+◌, ◌<◌, List, [], ◌∷◌, length, map, Some, refl, ap, ◌∙◌, subst, arith}
use Rattle.std.specs.Prelude.{slice_get}
use Rattle.std.specs.List.{AllZip, range_with_len}

module _ {A B : Type 0} (R : A → B → Type 0) where
  pub zip_long : (xs : List A) (ys : List B) → AllZip R xs ys → length ys ≡ length xs
  zip_long [] [] h = refl
  zip_long [] (y ∷ ys) h = absurd h
  zip_long (x ∷ xs) [] h = absurd h
  zip_long (x ∷ xs) (y ∷ ys) h = ap (λ (n : ℕ). suc n) (zip_long xs ys h.1)

  pub zip_at : (xs : List A) (ys : List B) → AllZip R xs ys → (i : ℕ) (x : A) (y : B) → slice_get xs i ≡ Some x → slice_get ys i ≡ Some y → R x y
  zip_at [] [] h i x y e k = absurd (cc e)
  zip_at [] (b ∷ ys) h i x y e k = absurd h
  zip_at (a ∷ xs) [] h i x y e k = absurd h
  zip_at (a ∷ xs) (b ∷ ys) h zero x y e k =
      (let one : a ≡ x = cc e in
      let two : b ≡ y = cc k in
      subst (λ (c : A). R c y) one (subst (R a) two h.0))
  zip_at (a ∷ xs) (b ∷ ys) h (suc i) x y e k = zip_at xs ys h.1 i x y e k

pub at_number : {A : Type 0} (f : ℕ → A) (first count s : ℕ) → s < count → slice_get (map f (range_with_len first count)) s ≡ Some (f (first + s))
at_number f first zero s lt = absurd (omega (arith, lt))
at_number f first (suc count) zero lt = ap (λ (n : ℕ). Some (f n)) (omega arith)
at_number f first (suc count) (suc s) lt = at_number f (first + 1) count s (omega (arith, lt)) ∙ ap (λ (n : ℕ). Some (f n)) (omega arith)
