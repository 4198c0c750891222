-- The tables of a switch's map, as they are handed in.
use Rattle.std.specs.Prelude.{ℕ, List, map}
use Rattle.std.specs.Global.{Vec}
use Rattle.indus_tree.specs.View.{shape_of}
use Rattle.indus_tree.specs.declared.tree.Decl.{Decl}
use Rattle.control_maps.specs.Numbers.{Numbered}

-- the numbers of a table, of its first action and of its variable, and the variable's declaration
abbrev pub numbered_of : ℕ × ℕ × ℕ × Decl → Numbered
numbered_of n = record { table = n.0; action = n.1; variable = n.2; shape = shape_of n.3.shape }

abbrev pub map_of : List (ℕ × ℕ × ℕ × Decl) → List Numbered
map_of ns = map numbered_of ns

abbrev pub maps_of : List (Vec (ℕ × ℕ × ℕ × Decl)) → List (List Numbered)
maps_of ms = map (λ v. map_of v.items) ms
