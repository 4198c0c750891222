-- Sums that stop at the greatest number of 32 bits: a number is another one, cut there.
use Rattle.std.proofs.Common.{◌≡◌, ℕ, ◌+◌, ◌≤◌, min, max, refl, arith}
use Rattle.p4_scopes.specs.Scopes.{add_up}

-- m is n, cut at the greatest number of 32 bits
pub record IsCut (n m : ℕ) : Type 0 where
  pub cut : min n 4294967295 ≡ m

pub zero_cut : IsCut 0 0
zero_cut = record { cut = refl }

pub one_cut : IsCut 1 1
one_cut = record { cut = refl }

pub none_cut : (n m : ℕ) → n ≡ 0 → m ≡ 0 → IsCut n m
none_cut n m h k = record { cut = omega (arith, h, k) }

pub add_cut : (a b x y : ℕ) → IsCut a x → IsCut b y → IsCut (a + b) (add_up x y)
add_cut a b x y h k = (let p = h.cut in let q = k.cut in record { cut = omega (arith, p, q) })

pub max_cut : (a b x y : ℕ) → IsCut a x → IsCut b y → IsCut (max a b) (max x y)
max_cut a b x y h k = (let p = h.cut in let q = k.cut in record { cut = omega (arith, p, q) })

-- nothing is added in front
pub other_cut : (a x y : ℕ) → x ≡ 0 → IsCut a y → IsCut a (add_up x y)
other_cut a x y e h = (let p = h.cut in record { cut = omega (arith, e, p) })

-- one of two numbers comes in front, in the place of nothing
pub first_cut : (a b n x y : ℕ) → IsCut a x → n ≡ 0 → IsCut (n + b) y → IsCut (a + b) (add_up x y)
first_cut a b n x y h e k = (let p = h.cut in let q = k.cut in record { cut = omega (arith, p, e, q) })

pub second_cut : (a b n x y : ℕ) → IsCut b x → n ≡ 0 → IsCut (a + n) y → IsCut (a + b) (add_up x y)
second_cut a b n x y h e k = (let p = h.cut in let q = k.cut in record { cut = omega (arith, p, e, q) })

-- what is far below the greatest number was not cut
pub uncut : (n m : ℕ) → IsCut n m → m ≤ 20480 → n ≡ m
uncut n m h k = (let p = h.cut in omega (arith, p, k))
