-- The shortest of some lists, found from the first on.
use Rattle.std.proofs.Common.{◌≡◌, ℕ, List, [], ◌∷◌, length, min, Option, Some, None, refl, ap, ◌∙◌, arith}
use Rattle.bit_values.specs.Bits.{Word}
use Rattle.indus_tree.specs.Meaning.{shortest}

-- the shortest of some lists, behind others whose shortest has so many items
abbrev pub shortest_behind : Option ℕ → List (List Word) → ℕ
shortest_behind None [] = 0
shortest_behind (Some n) [] = n
shortest_behind None (l ∷ ls) = shortest_behind (Some (length l)) ls
shortest_behind (Some n) (l ∷ ls) = shortest_behind (Some (min n (length l))) ls

min_of_three : (a b c : ℕ) → min (min a b) c ≡ min a (min b c)
min_of_three a b c = omega arith

both : (n m : ℕ) (ls : List (List Word)) → shortest_behind (Some (min n m)) ls ≡ min n (shortest_behind (Some m) ls)
both n m [] = refl
both n m (l ∷ ls) = ap (λ k. shortest_behind (Some k) ls) (min_of_three n m (length l)) ∙ both n (min m (length l)) ls

from_first : (l : List Word) (ls : List (List Word)) → shortest_behind (Some (length l)) ls ≡ shortest (l ∷ ls)
from_first l [] = refl
from_first l (m ∷ ls) = both (length l) (length m) ls ∙ ap (min (length l)) (from_first m ls)

-- behind none
pub shortest_of_all : (ls : List (List Word)) → shortest_behind None ls ≡ shortest ls
shortest_of_all [] = refl
shortest_of_all (l ∷ ls) = from_first l ls
