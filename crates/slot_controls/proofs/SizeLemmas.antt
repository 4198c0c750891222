-- How large steps are: what runs them ends.
use Rattle.std.proofs.Common.{ℕ, suc, ◌+◌}
use Rattle.slot_controls.specs.Steps.{Step, Steps, plain, group, branch, calls, applies, makes, reads, writes, tells, verifies, updates, done, next}

abbrev mutual
  pub size_of : Step → ℕ
  size_of (plain c) = 1
  size_of (group cs) = suc (size_of_all cs)
  size_of (branch t a b) = suc (size_of a + size_of b)
  size_of (calls is ts body) = suc (size_of_all body)
  size_of (applies bs x asked a b) = suc (size_of_all bs + (size_of a + size_of b))
  size_of (makes k h valid) = 1
  size_of (reads k t i) = 1
  size_of (writes k i v) = 1
  size_of (tells k ts) = 1
  size_of (verifies ts f error) = 1
  size_of (updates ts t) = 1

  pub size_of_all : Steps → ℕ
  size_of_all done = 0
  size_of_all (next c cs) = suc (size_of c + size_of_all cs)
