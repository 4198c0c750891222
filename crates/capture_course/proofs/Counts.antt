-- Sums that loops reckon from the left, and that stop at a greatest number.
use Rattle.std.proofs.Common.{◌≡◌, ℕ, ◌+◌, ◌<◌, ◌≤◌, min, List, map, length, drop, get_or, sym, ap, ◌∙◌, arith}
use Rattle.std.proofs.Math.Nat.{min-eq_left}
use Rattle.json_parts.proofs.TurnLemmas.{drop_map, drop_all}
use Rattle.capture_course.specs.Files.{sum_of}
use Rattle.capture_course.proofs.Sums.{sum_step}

module _ {A B : Type 0} (most : ℕ) (f : B → ℕ) (v : A → B) (xs : List A) (i count total : ℕ) (so_far : min (count + sum_of f (drop i (map v xs))) most ≡ total) where
  pub count_more : (x : A) (next : ℕ) → i < length xs → next ≡ min (count + f (v (get_or xs i x))) most → min (next + sum_of f (drop (i + 1) (map v xs))) most ≡ total
  count_more x next lt is =
      ap (λ m. min (m + sum_of f (drop (i + 1) (map v xs))) most) is
      ∙ sum_step most count (f (v (get_or xs i x))) (sum_of f (drop (i + 1) (map v xs)))
      ∙ ap (λ ys. min (count + sum_of f ys) most) (sym (drop_map v xs i x lt))
      ∙ so_far

  pub count_end : length xs ≤ i → count ≤ most → count ≡ total
  count_end le small =
      let none : count + 0 ≡ count = omega arith in
      let all : min (count + 0) most ≡ total = ap (λ ys. min (count + sum_of f ys) most) (sym (drop_all v xs i le)) ∙ so_far in
      sym (ap (λ n. min n most) none ∙ min-eq_left small) ∙ all
