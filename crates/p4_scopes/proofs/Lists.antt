-- Lists at their ends, and at numbers.
use Rattle.std.proofs.Common.{◌≡◌, ℕ, zero, suc, ◌<◌, ◌≤◌, List, [], ◌∷◌, ◌++◌, take, length, Some, slice_get, refl, sym, ap, subst, arith}

shift : {A : Type 0} (xs : List A) (y : A) (ys : List A) → (xs ++ y ∷ []) ++ ys ≡ xs ++ y ∷ ys
shift [] y ys = refl
shift (x ∷ xs) y ys = ap (λ zs. x ∷ zs) (shift xs y ys)

ends_from : {A : Type 0} (P : List A → Type 0) → ((xs : List A) (x : A) → P xs → P (xs ++ x ∷ [])) → (front back : List A) → P front → P (front ++ back)
ends_from P more front [] p = subst P (sym (none_behind front)) p
  where
    none_behind : {A : Type 0} (xs : List A) → xs ++ [] ≡ xs
    none_behind [] = refl
    none_behind (x ∷ xs) = ap (λ zs. x ∷ zs) (none_behind xs)
ends_from P more front (x ∷ back) p = subst P (shift front x back) (ends_from P more (front ++ x ∷ []) back (more front x p))

-- what holds of no items, and of one item more at the end, holds of each list
pub by_ends : {A : Type 0} (P : List A → Type 0) → P [] → ((xs : List A) (x : A) → P xs → P (xs ++ x ∷ [])) → (xs : List A) → P xs
by_ends P none more xs = ends_from P more [] xs none

pub at_front : {A : Type 0} (xs ys : List A) (i : ℕ) → i < length xs → slice_get (xs ++ ys) i ≡ slice_get xs i
at_front [] ys i h = absurd (omega (arith, h))
at_front (x ∷ xs) ys zero h = refl
at_front (x ∷ xs) ys (suc i) h = at_front xs ys i (omega (arith, h))

pub at_end : {A : Type 0} (xs : List A) (y : A) (ys : List A) → slice_get (xs ++ y ∷ ys) (length xs) ≡ Some y
at_end [] y ys = refl
at_end (x ∷ xs) y ys = at_end xs y ys

pub at_taken : {A : Type 0} (n i : ℕ) (xs : List A) → i < n → slice_get (take n xs) i ≡ slice_get xs i
at_taken zero i xs h = absurd (omega (arith, h))
at_taken (suc n) i [] h = refl
at_taken (suc n) zero (x ∷ xs) h = refl
at_taken (suc n) (suc i) (x ∷ xs) h = at_taken n i xs (omega (arith, h))

pub twice_taken : {A : Type 0} (i n : ℕ) (xs : List A) → i ≤ n → take i (take n xs) ≡ take i xs
twice_taken zero n xs h = refl
twice_taken (suc i) zero xs h = absurd (omega (arith, h))
twice_taken (suc i) (suc n) [] h = refl
twice_taken (suc i) (suc n) (x ∷ xs) h = ap (λ ys. x ∷ ys) (twice_taken i n xs (omega (arith, h)))

pub few_taken : {A : Type 0} (n : ℕ) (xs : List A) → length (take n xs) ≤ n
few_taken zero xs = omega arith
few_taken (suc n) [] = omega arith
few_taken (suc n) (x ∷ xs) = let h : length (take n xs) ≤ n = few_taken n xs in omega (arith, h)
