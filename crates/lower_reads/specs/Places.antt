-- The table of declarations' names.
use Rattle.std.specs.Prelude.{◌≡◌, ℕ, List, String}
use Rattle.std.specs.declared.alloc.Global.{Global}
use Rattle.indus_tree.specs.Tree.{Decl}
use Rattle.indus_tree.specs.Hops.{variable_number}
use Rattle.p4_types.specs.Kept.{at_name}

-- the table has at each name the place of its first declaration
abbrev pub HasPlaces : List (String Global × ℕ) → List Decl → Type 0
HasPlaces es ds = (x : List ℕ) → at_name es x ≡ variable_number ds x
