-- How many keys applications have.
use Rattle.std.proofs.Common.{ℕ, ◌≤◌, List, [], ◌∷◌, ◌++◌, length, Bool, arith}
use Rattle.slot_controls.specs.Steps.{Application, Step, Steps, plain, group, branch, calls, applies, makes, reads, writes, tells, verifies, updates, done, next, steps_from, HasFewKeys, HaveFewKeys}

mutual
  pub few_more : (n k : ℕ) (c : Step) → n ≤ k → HasFewKeys n c → HasFewKeys k c
  few_more n k (plain c) le h = tt
  few_more n k (group cs) le h = few_more_all n k cs le h
  few_more n k (branch t a b) le h = (few_more n k a le h.0, few_more n k b le h.1)
  few_more n k (calls is ts body) le h = few_more_all n k body le h
  few_more n k (applies bs x asked a b) le h = (omega (arith, le, h.0), few_more_all n k bs le h.1, few_more n k a le h.2, few_more n k b le h.3)
  few_more n k (makes i s b) le h = tt
  few_more n k (reads i t j) le h = tt
  few_more n k (writes i j v) le h = tt
  few_more n k (tells i ts) le h = tt
  few_more n k (verifies ts f i) le h = tt
  few_more n k (updates ts t) le h = tt

  pub few_more_all : (n k : ℕ) (cs : Steps) → n ≤ k → HaveFewKeys n cs → HaveFewKeys k cs
  few_more_all n k done le h = tt
  few_more_all n k (next c cs) le h = (few_more n k c le h.0, few_more_all n k cs le h.1)

pub few_behind : (n : ℕ) (xs : List Step) (c : Step) → HaveFewKeys n (steps_from xs) → HasFewKeys n c → HaveFewKeys n (steps_from (xs ++ c ∷ []))
few_behind n [] c all one = (one, tt)
few_behind n (x ∷ xs) c all one = (all.0, few_behind n xs c all.1 one)

pub few_before : (n : ℕ) (xs : List Step) (c : Step) → HaveFewKeys n (steps_from (xs ++ c ∷ [])) → HaveFewKeys n (steps_from xs) × HasFewKeys n c
few_before n [] c all = (tt, all.0)
few_before n (x ∷ xs) c all = (let r = few_before n xs c all.1 in ((all.0, r.0), r.1))

-- a step more
pub most_more : (most one new : ℕ) (xs : List Step) (c : Step) → most ≤ new → one ≤ new → HaveFewKeys most (steps_from xs) → HasFewKeys one c → HaveFewKeys new (steps_from (xs ++ c ∷ []))
most_more most one new xs c le less all h = few_behind new xs c (few_more_all most new (steps_from xs) le all) (few_more one new c less h)

pub least_more : (most one new : ℕ) (xs : List Step) (c : Step) → ((n : ℕ) → HaveFewKeys n (steps_from xs) → most ≤ n) → ((n : ℕ) → HasFewKeys n c → one ≤ n) → ((n : ℕ) → most ≤ n → one ≤ n → new ≤ n)
    → (n : ℕ) → HaveFewKeys n (steps_from (xs ++ c ∷ [])) → new ≤ n
least_more most one new xs c all h greater n few = (let r = few_before n xs c few in greater n (all n r.0) (h n r.1))

-- two branches
pub both_few : (j l n : ℕ) (a b : Step) → j ≤ n → l ≤ n → HasFewKeys j a → HasFewKeys l b → HasFewKeys n a × HasFewKeys n b
both_few j l n a b left right g h = (few_more j n a left g, few_more l n b right h)

-- an application, with its bodies and what is behind it; o: the keys and the bodies, m: the branches
pub application_few :
    (i k o j l m n : ℕ) (bs : Steps) (x : Application) (asked : Bool) (a b : Step) → i ≤ o → k ≤ o → j ≤ m → l ≤ m → o ≤ n → m ≤ n → length x.keys ≤ i → HaveFewKeys k bs → HasFewKeys j a → HasFewKeys l b
    → HasFewKeys n (applies bs x asked a b)
application_few i k o j l m n bs x asked a b io ko jm lm on mn keys f g h = (omega (arith, io, on, keys), few_more_all k n bs (omega (arith, ko, on)) f, few_more j n a (omega (arith, jm, mn)) g, few_more l n b (omega (arith, lm, mn)) h)
