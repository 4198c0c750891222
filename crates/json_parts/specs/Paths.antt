-- Paths: where in a file a value stands. The root's is empty.
use Rattle.std.specs.Prelude.{ℕ, List, ◌++◌, codes, decimal}

-- what has this name in the object at a path
abbrev pub below : List ℕ → List ℕ → List ℕ
below path name = path ++ (codes "/" ++ name)

-- what has this number, from 0 on, in the array at a path
abbrev pub item_below : List ℕ → ℕ → List ℕ
item_below path number = below path (decimal number)
