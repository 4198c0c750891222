-- Paths of names.
use Rattle.std.specs.Prelude.{ℕ, List}
use Rattle.std.specs.Global.{Vec}

-- a path, as a list keeps it
abbrev pub path_in : Vec (List ℕ) → List (List ℕ)
path_in p = p.items
