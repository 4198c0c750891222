-- The table of some declarations' names.
use Rattle.std.specs.Prelude.{ℕ, List, [], ◌∷◌, map, String, string_bytes}
use Rattle.std.specs.declared.alloc.Global.{Global}
use Rattle.indus_tree.specs.Tree.{Decl}

-- the names of some declarations, in order
abbrev pub names_of : List Decl → List (List ℕ)
names_of [] = []
names_of (d ∷ ds) = d.name ∷ names_of ds

-- the bytes of some texts
abbrev pub texts : List (String Global) → List (List ℕ)
texts ks = map string_bytes ks
