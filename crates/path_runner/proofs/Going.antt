-- How many packets are not at their ends, where one has moved.
use Rattle.std.proofs.Common.{◌≡◌, ℕ, zero, suc, ◌+◌, ◌<◌, ◌≤◌, List, [], ◌∷◌, length, get_or, set, arith}
use Rattle.p4_meaning.specs.Pass.{Queued}
use Rattle.network_run.specs.Network.{Place, Over}
use Rattle.path_runner.specs.Sound.{going_one, going_on}

pub going-set : (ps : List (Place Queued)) (i : ℕ) (v : Place Queued) → i < length ps → going_on (set ps i v) + going_one (get_or ps i Over) ≡ going_on ps + going_one v
going-set [] i v h = absurd (omega (arith, h))
going-set (p ∷ ps) zero v h = omega arith
going-set (p ∷ ps) (suc i) v h = let e = going-set ps i v (omega (arith, h)) in omega (arith, e)

pub going_at : (ps : List (Place Queued)) (i : ℕ) → i < length ps → going_one (get_or ps i Over) ≤ going_on ps
going_at [] i h = absurd (omega (arith, h))
going_at (p ∷ ps) zero h = omega arith
going_at (p ∷ ps) (suc i) h = let e = going_at ps i (omega (arith, h)) in omega (arith, e)
