-- Products of cut sums.
use Rattle.std.proofs.Common.{◌≡◌, ℕ, zero, suc, ◌+◌, ◌*◌, ◌≤◌, ◌<◌, arith, refl, sym, ap, ◌∙◌, ◌⊎◌, inl, inr, Bool, true, false, nat_lt, mul-le-mul_right, mul-le-mul_left, mul-le-mul, mul_comm, mul-zero}
use borrow.Author.Tests.{ltb-true, ltb-false}
use Rattle.indus_types.specs.Sums.{cut}

side_step : (a b : ℕ) (t : Bool) → nat_lt a b ≡ t → (a < b) ⊎ (b ≤ a)
side_step a b true e = inl (omega (arith, ltb-true))
side_step a b false e = inr (omega (arith, ltb-false))

pub side : (a b : ℕ) → (a < b) ⊎ (b ≤ a)
side a b = side_step a b (nat_lt a b) refl

pub product : (n t : ℕ) → n ≤ 255 → t ≤ 255 → n * t ≤ 65025
product n t a b = mul-le-mul a b

small : (n w : ℕ) → w ≤ 4294967295 → cut (n * (cut w + 1) + 1) ≡ cut (n * (w + 1) + 1)
small n w h = let e : cut w ≡ w = omega arith in ap (λ v. cut (n * (v + 1) + 1)) e

over : (n m : ℕ) → 4294967295 ≤ m → 1 ≤ n → cut (n * (m + 1) + 1) ≡ 4294967295
over n m h k = let p : 1 * (m + 1) ≤ n * (m + 1) = mul-le-mul_right (m + 1) k in omega (arith, p)

large : (n w : ℕ) → 4294967295 ≤ w → cut (n * (cut w + 1) + 1) ≡ cut (n * (w + 1) + 1)
large zero w h = omega arith
large (suc n) w h = over (suc n) (cut w) (omega arith) (omega arith) ∙ sym (over (suc n) w h (omega arith))

pub cut_turns : (n w : ℕ) → cut (n * (cut w + 1) + 1) ≡ cut (n * (w + 1) + 1)
cut_turns n w = elim (side w 4294967295) [ inl h ↦ small n w (omega arith) | inr h ↦ large n w h ]

fits : (n w : ℕ) → w + 1 ≤ 4294967295 → cut (cut (cut (w + 1) * n) + 1) ≡ cut (n * (w + 1) + 1)
fits n w h = let e : cut (w + 1) ≡ w + 1 = omega arith in ap (λ v. cut (cut (v * n) + 1)) e ∙ rw (mul_comm (w + 1) n) (omega arith)

fills : (n w : ℕ) → 4294967295 ≤ w → 1 ≤ n → cut (cut (cut (w + 1) * n) + 1) ≡ 4294967295
fills n w h k =
    let e : cut (w + 1) ≡ 4294967295 = omega arith in
    let p : 4294967295 * 1 ≤ 4294967295 * n = mul-le-mul_left 4294967295 k in
    ap (λ v. cut (cut (v * n) + 1)) e ∙ omega (arith, p)

full : (n w : ℕ) → 4294967295 ≤ w → cut (cut (cut (w + 1) * n) + 1) ≡ cut (n * (w + 1) + 1)
full zero w h = rw (mul-zero (cut (w + 1))) (omega arith)
full (suc n) w h = fills (suc n) w h (omega arith) ∙ sym (over (suc n) w h (omega arith))

pub cut_plain : (n w : ℕ) → cut (cut (cut (w + 1) * n) + 1) ≡ cut (n * (w + 1) + 1)
cut_plain n w = elim (side w 4294967295) [ inl h ↦ fits n w (omega arith) | inr h ↦ full n w h ]

-- a product of plain reads

small_times : (n w : ℕ) → w ≤ 4294967295 → cut (n * cut w) ≡ cut (n * w)
small_times n w h = let e : cut w ≡ w = omega arith in ap (λ v. cut (n * v)) e

over_times : (n m : ℕ) → 4294967295 ≤ m → 1 ≤ n → cut (n * m) ≡ 4294967295
over_times n m h k = let p : 1 * m ≤ n * m = mul-le-mul_right m k in omega (arith, p)

large_times : (n w : ℕ) → 4294967295 ≤ w → cut (n * cut w) ≡ cut (n * w)
large_times zero w h = omega arith
large_times (suc n) w h = over_times (suc n) (cut w) (omega arith) (omega arith) ∙ sym (over_times (suc n) w h (omega arith))

pub cut_times : (n w : ℕ) → cut (n * cut w) ≡ cut (n * w)
cut_times n w = elim (side w 4294967295) [ inl h ↦ small_times n w (omega arith) | inr h ↦ large_times n w h ]

pub cut_product : (n w : ℕ) → cut (w * n) ≡ cut (n * w)
cut_product n w = ap cut (mul_comm w n)
