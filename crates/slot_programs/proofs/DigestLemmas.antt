-- How many digests statements give.
use Rattle.std.proofs.Common.{◌≡◌, ℕ, ◌+◌, List, arith}
use Rattle.p4_tree.specs.Tree.{Stmts, done, next, and_then}
use Rattle.p4_meaning.specs.DigestBound.{most_of}

-- one part behind another
pub told_then : (action table : List ℕ → ℕ) (a b : Stmts) → most_of action table (and_then a b) ≡ most_of action table a + most_of action table b
told_then action table done b = omega arith
told_then action table (next s ss) b = (let e : most_of action table (and_then ss b) ≡ most_of action table ss + most_of action table b = told_then action table ss b in omega (arith, e))
