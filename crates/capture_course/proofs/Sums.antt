-- Sums and products that stop at a greatest number.
use Rattle.std.proofs.Common.{◌≡◌, ℕ, zero, suc, ◌+◌, ◌*◌, ◌<◌, ◌≤◌, min, Bool, true, false, nat_lt, refl, sym, ap, ◌∙◌, arith, ltb-true, ltb-false}
use Rattle.std.proofs.Math.Nat.{min-eq_left, min-eq_right, min-le_left, min-le_right, le-mul_of_pos_right, mul-le-mul_right}

-- one more is added
pub sum_step : (most a b c : ℕ) → min (min (a + b) most + c) most ≡ min (a + (b + c)) most
sum_step most a b c = by (nat_lt most (a + b)) refl
  where
    by : (t : Bool) → nat_lt most (a + b) ≡ t → min (min (a + b) most + c) most ≡ min (a + (b + c)) most
    by true h =
        let big : most ≤ a + b = omega (arith, ltb-true) in
        let more : most ≤ most + c = omega arith in
        let all : most ≤ a + (b + c) = omega arith in
        ap (λ n. min (n + c) most) (min-eq_right big) ∙ min-eq_right more ∙ sym (min-eq_right all)
    by false h =
        let small : a + b ≤ most = omega (arith, ltb-false) in
        let same : (a + b) + c ≡ a + (b + c) = omega arith in
        ap (λ n. min (n + c) most) (min-eq_left small) ∙ ap (λ n. min n most) same

-- what is added stops at the greatest number too
pub sum_inner : (most a b : ℕ) → min (a + min b most) most ≡ min (a + b) most
sum_inner most a b = by (nat_lt most b) refl
  where
    by : (t : Bool) → nat_lt most b ≡ t → min (a + min b most) most ≡ min (a + b) most
    by true h =
        let big : most ≤ b = omega (arith, ltb-true) in
        let more : most ≤ a + most = omega arith in
        let all : most ≤ a + b = omega arith in
        ap (λ n. min (a + n) most) (min-eq_right big) ∙ min-eq_right more ∙ sym (min-eq_right all)
    by false h =
        let small : b ≤ most = omega (arith, ltb-false) in
        ap (λ n. min (a + n) most) (min-eq_left small)

-- a product that is over a limit below the greatest number, and one that is not
pub product_over : (most limit y h : ℕ) → limit < min (min y most * h) most → limit < y * h
product_over most limit y h over =
    let less = mul-le-mul_right h (min-le_left y most) in
    let stop = min-le_left (min y most * h) most in
    omega (arith, less, stop)

pub product_within : (most limit y h : ℕ) → limit < most → min (min y most * h) most ≤ limit → y * h ≤ limit
product_within most limit y h low within = by (nat_lt most y) refl
  where
    fits : (n : ℕ) (t : Bool) → nat_lt most n ≡ t → min n most ≤ limit → n ≤ limit
    fits n true e w = let big : most ≤ n = omega (arith, ltb-true) in let is = min-eq_right big in absurd (omega arith)
    fits n false e w = let small : n ≤ most = omega (arith, ltb-false) in let is = min-eq_left small in omega arith

    times : (m : ℕ) → most ≤ y → min (min y most * m) most ≤ limit → y * m ≤ limit
    times zero big w = omega arith
    times (suc m) big w =
        let is = min-eq_right big in
        let more : most ≤ most * suc m = le-mul_of_pos_right most (omega arith) in
        let w' : min (most * suc m) most ≤ limit = rw is at w in
        let stop = min-eq_right more in
        absurd (omega arith)

    by : (t : Bool) → nat_lt most y ≡ t → y * h ≤ limit
    by true e = times h (omega (arith, ltb-true)) within
    by false e =
        let small : y ≤ most = omega (arith, ltb-false) in
        let is = min-eq_left small in
        fits (y * h) (nat_lt most (y * h)) refl (rw is at within)
