-- How many packets wait.
use Rattle.std.proofs.Common.{◌≡◌, ℕ, zero, suc, ◌+◌, ◌<◌, ◌≤◌, Bool, true, false, List, [], ◌∷◌, length, get_or, refl, arith}
use Rattle.std.specs.Prelude.{slice_set, replicate}
use Rattle.schedule_file.specs.Schedule.{one_if, count_of}

-- no packet waits at first
pub none_wait : (n : ℕ) → count_of (replicate n false) ≡ 0
none_wait zero = refl
none_wait (suc n) = omega (arith, none_wait n)

-- where one of them waits or does not
pub count_set : (ws : List Bool) (i : ℕ) (d b : Bool) → i < length ws → count_of (slice_set ws i b) + one_if (get_or ws i d) ≡ count_of ws + one_if b
count_set [] i d b lt = absurd (omega arith)
count_set (w ∷ ws) zero d b lt = omega arith
count_set (w ∷ ws) (suc i) d b lt =
    let rest = count_set ws i d b (omega arith) in
    omega (arith, rest)

-- one that waits is counted
pub one_counted : (ws : List Bool) (i : ℕ) (d : Bool) → i < length ws → one_if (get_or ws i d) ≤ count_of ws
one_counted [] i d lt = absurd (omega arith)
one_counted (w ∷ ws) zero d lt = omega arith
one_counted (w ∷ ws) (suc i) d lt =
    let rest = one_counted ws i d (omega arith) in
    omega (arith, rest)

-- no more wait than there are packets
pub few_wait : (ws : List Bool) → count_of ws ≤ length ws
few_wait [] = omega arith
few_wait (w ∷ ws) = by w (few_wait ws)
  where
    by : (b : Bool) → count_of ws ≤ length ws → one_if b + count_of ws ≤ suc (length ws)
    by true few = omega (arith, few)
    by false few = omega (arith, few)
