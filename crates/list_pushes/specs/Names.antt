-- The names of numbered scalars. A variable's number is its place among all declarations, from 0.
use Rattle.std.specs.Prelude.{ℕ, List, [], ◌∷◌, ◌++◌}
use Rattle.std.specs.Fmt.{decimal}

-- the item at a place of a list, or a scalar, which is its item at 0: as `3_0`
unfoldable pub item_name : (variable place : ℕ) → List ℕ
item_name v i = decimal v ++ 95 ∷ decimal i

-- the number of a list's items: as `3_c`
unfoldable pub count_name : (variable : ℕ) → List ℕ
count_name v = decimal v ++ 95 ∷ 99 ∷ []
