-- Sums that stop at the first number that is too large for a switch have the answer of the whole ones.
use Rattle.std.proofs.Common.{◌≡◌, ℕ, ◌+◌, ◌*◌, ◌≤◌, sum, List, [], ◌∷◌, map, length, Bool, true, false, not, nat_lt, cond, Some, None, refl, ap, ◌∙◌, arith}
use Rattle.std.specs.Prelude.{All}
use Rattle.std.specs.List.{position_or_len}
use Rattle.std.proofs.lemmas.List.Elements.{All-nil, All-cons}
use Rattle.std.proofs.lemmas.List.Sums.{sum_by-le, sum-map}
use Rattle.std.proofs.lemmas.Bool.Decides.{nat_tests}
use borrow.Author.Tests.{ltb-false}
use Rattle.table_items.specs.Items.{too_many_in, too_many_of}
use Rattle.table_items.specs.Steps.{cap}
use Rattle.table_items.proofs.SumLemmas.{cons_both}

abbrev over : ℕ → Bool
over n = nat_lt 65536 n

over-cap : (n : ℕ) → over (cap n) ≡ over n
over-cap n = grind (arith, nat_tests)

first-cap : (xs : List ℕ) → position_or_len over (map cap xs) ≡ position_or_len over xs
first-cap [] = refl
first-cap (x ∷ xs) = ap (λ b. cond (not b) (1 + position_or_len over (map cap xs)) 0) (over-cap x) ∙ ap (λ n. cond (not (over x)) (1 + n) 0) (first-cap xs)

length-cap : (xs : List ℕ) → length (map cap xs) ≡ length xs
length-cap [] = refl
length-cap (x ∷ xs) = let again = length-cap xs in omega arith

-- where no number is over, each is itself
small_next : (x : ℕ) (xs : List ℕ) → (length xs ≤ position_or_len over xs → map cap xs ≡ xs) → (b : Bool) → over x ≡ b → length (x ∷ xs) ≤ cond (not b) (1 + position_or_len over xs) 0 → map cap (x ∷ xs) ≡ x ∷ xs
small_next x xs again true e h = absurd (omega arith)
small_next x xs again false e h = let small : cap x ≡ x = omega (arith, ltb-false) in cons_both small (again (omega arith))

all_small : (xs : List ℕ) → length xs ≤ position_or_len over xs → map cap xs ≡ xs
all_small [] h = refl
all_small (x ∷ xs) h = small_next x xs (λ k. all_small xs k) (over x) refl h

by_first : (xs : List ℕ) (n m : ℕ) → n ≡ position_or_len over xs → m ≡ length xs → (b : Bool) → nat_lt n m ≡ b → too_many_in (map cap xs) (cond b (Some n) None) ≡ too_many_in xs (cond b (Some n) None)
by_first xs n m e f true t = refl
by_first xs n m e f false t = ap (λ ys. too_many_in ys None) (all_small xs (omega (arith, ltb-false)))

pub too_many-cap : (xs : List ℕ) → too_many_of (map cap xs) ≡ too_many_of xs
too_many-cap xs =
    ap (λ n. too_many_in (map cap xs) (cond (nat_lt n (length (map cap xs))) (Some n) None)) (first-cap xs)
    ∙ ap (λ m. too_many_in (map cap xs) (cond (nat_lt (position_or_len over xs) m) (Some (position_or_len over xs)) None)) (length-cap xs)
    ∙ by_first xs (position_or_len over xs) (length xs) refl refl (nat_lt (position_or_len over xs) (length xs)) refl

each_capped : (xs : List ℕ) → All (λ x. cap x ≤ 65537) xs
each_capped [] = All-nil (λ x. cap x ≤ 65537)
each_capped (x ∷ xs) = All-cons (λ x. cap x ≤ 65537) x xs (omega arith) (each_capped xs)

pub sum-cap : (ys xs : List ℕ) → ys ≡ map cap xs → sum ys ≤ length ys * 65537
sum-cap ys xs e = rw (e, sum-map cap xs, length-cap xs) (sum_by-le cap 65537 xs (each_capped xs))
