-- Which names a property declares.
use Rattle.std.specs.Prelude.{ℕ, Bool, false, ◌||◌, List, [], ◌∷◌}
use Rattle.lex_text.specs.Names.{same_text}
use Rattle.indus_tree.specs.Tree.{Decl}

-- the name is declared
abbrev pub is_declared : List Decl → List ℕ → Bool
is_declared [] x = false
is_declared (d ∷ ds) x = same_text d.name x || is_declared ds x
