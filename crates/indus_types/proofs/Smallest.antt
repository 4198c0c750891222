-- The smallest size of some lists, found from the first on.
use Rattle.std.proofs.Common.{◌≡◌, ℕ, List, [], ◌∷◌, min, Option, Some, None, refl, ap, ◌∙◌, arith}
use Rattle.indus_tree.specs.Tree.{Decl}
use Rattle.indus_types.specs.Sums.{size_of, smallest}

-- the smallest size of some lists, behind others whose smallest is this
abbrev pub smallest_behind : List Decl → Option ℕ → List (List ℕ) → ℕ
smallest_behind ds None [] = 0
smallest_behind ds (Some n) [] = n
smallest_behind ds None (x ∷ xs) = smallest_behind ds (Some (size_of ds x)) xs
smallest_behind ds (Some n) (x ∷ xs) = smallest_behind ds (Some (min n (size_of ds x))) xs

min_of_three : (a b c : ℕ) → min (min a b) c ≡ min a (min b c)
min_of_three a b c = omega arith

module _ (ds : List Decl) where
  both : (n m : ℕ) (xs : List (List ℕ)) → smallest_behind ds (Some (min n m)) xs ≡ min n (smallest_behind ds (Some m) xs)
  both n m [] = refl
  both n m (x ∷ xs) = ap (λ k. smallest_behind ds (Some k) xs) (min_of_three n m (size_of ds x)) ∙ both n (min m (size_of ds x)) xs

  from_first : (x : List ℕ) (xs : List (List ℕ)) → smallest_behind ds (Some (size_of ds x)) xs ≡ smallest ds (x ∷ xs)
  from_first x [] = refl
  from_first x (y ∷ xs) = both (size_of ds x) (size_of ds y) xs ∙ ap (min (size_of ds x)) (from_first y xs)

  -- behind none
  pub smallest_of_all : (xs : List (List ℕ)) → smallest_behind ds None xs ≡ smallest ds xs
  smallest_of_all [] = refl
  smallest_of_all (x ∷ xs) = from_first x xs
