-- Writes to the numbers of the switches, one behind the other.
use Rattle.std.proofs.Common.{◌≡◌, ℕ, zero, suc, ◌+◌, ◌*◌, ◌≤◌, ◌<◌, List, [], ◌∷◌, ◌++◌, map, take, drop, length, get_or, max, refl, ap, arith, add-one}
use Rattle.std.proofs.Math.ListN.{set}
use Rattle.table_items.specs.Steps.{cap, raise, added}

-- a write at a place of the list
pub set_greater : (xs : List ℕ) (i n : ℕ) → set xs i (max (get_or xs i 0) n) ≡ raise xs i n
set_greater [] zero n = refl
set_greater [] (suc i) n = refl
set_greater (x ∷ xs) zero n = refl
set_greater (x ∷ xs) (suc i) n = ap (λ ys. x ∷ ys) (set_greater xs i n)

-- there is no such place
pub raise_none : (xs : List ℕ) (i n : ℕ) → length xs ≤ i → raise xs i n ≡ xs
raise_none [] i n h = refl
raise_none (x ∷ xs) zero n h = absurd (omega arith)
raise_none (x ∷ xs) (suc i) n h = ap (λ ys. x ∷ ys) (raise_none xs i n (omega arith))

-- what f is of the next item is written
module _ {A : Type 0} (f : A → ℕ) where
  after : (xs : List A) (ys : List ℕ) (i : ℕ) (x d : A) → length ys ≡ length xs → i < length xs → x ≡ get_or xs i d → set (map f (take i xs) ++ drop i ys) i (f x) ≡ map f (take (suc i) xs) ++ drop (suc i) ys
  after [] ys i x d n h e = absurd (omega arith)
  after (a ∷ xs) [] i x d n h e = absurd (omega arith)
  after (a ∷ xs) (y ∷ ys) zero x d n h e = ap (λ z. f z ∷ ys) e
  after (a ∷ xs) (y ∷ ys) (suc i) x d n h e = ap (λ zs. f a ∷ zs) (after xs ys i x d (omega arith) (omega arith) e)

  pub next : (xs : List A) (ys : List ℕ) (i : ℕ) (x d : A) → length ys ≡ length xs → i < length xs → x ≡ get_or xs i d → set (map f (take i xs) ++ drop i ys) i (f x) ≡ map f (take (i + 1) xs) ++ drop (i + 1) ys
  next xs ys i x d n h e = rw (add-one) (after xs ys i x d n h e)

-- and what g and then f are
module _ {A B : Type 0} (g : A → B) (f : B → ℕ) where
  seen : (xs : List A) (ys : List ℕ) (i : ℕ) (x d : A) → length ys ≡ length xs → i < length xs → x ≡ get_or xs i d → set (map f (map g (take i xs)) ++ drop i ys) i (f (g x)) ≡ map f (map g (take (suc i) xs)) ++ drop (suc i) ys
  seen [] ys i x d n h e = absurd (omega arith)
  seen (a ∷ xs) [] i x d n h e = absurd (omega arith)
  seen (a ∷ xs) (y ∷ ys) zero x d n h e = ap (λ z. f (g z) ∷ ys) e
  seen (a ∷ xs) (y ∷ ys) (suc i) x d n h e = ap (λ zs. f (g a) ∷ zs) (seen xs ys i x d (omega arith) (omega arith) e)

  pub seen_next : (xs : List A) (ys : List ℕ) (i : ℕ) (x d : A) → length ys ≡ length xs → i < length xs → x ≡ get_or xs i d → set (map f (map g (take i xs)) ++ drop i ys) i (f (g x)) ≡ map f (map g (take (i + 1) xs)) ++ drop (i + 1) ys
  seen_next xs ys i x d n h e = rw (add-one) (seen xs ys i x d n h e)

-- a sum is written
module _ (r : ℕ) where
  abbrev half : (sums xs : List ℕ) (i : ℕ) → List ℕ
  half sums xs i = added r (take i sums) (take i xs) ++ drop i sums

  sum_after : (sums xs : List ℕ) (i : ℕ) → length sums ≡ length xs → i < length xs → set (half sums xs i) i (cap (get_or (half sums xs i) i 0 + r * get_or xs i 0)) ≡ half sums xs (suc i)
  sum_after [] xs i n h = absurd (omega arith)
  sum_after (b ∷ sums) [] i n h = absurd (omega arith)
  sum_after (b ∷ sums) (y ∷ xs) zero n h = refl
  sum_after (b ∷ sums) (y ∷ xs) (suc i) n h = ap (λ zs. cap (b + r * y) ∷ zs) (sum_after sums xs i (omega arith) (omega arith))

  pub sum_next : (sums xs : List ℕ) (i : ℕ) → length sums ≡ length xs → i < length xs → set (half sums xs i) i (cap (get_or (half sums xs i) i 0 + r * get_or xs i 0)) ≡ half sums xs (i + 1)
  sum_next sums xs i n h = rw (add-one) (sum_after sums xs i n h)
