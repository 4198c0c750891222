-- What the values of the program stand for.
use Rattle.std.specs.Prelude.{ℕ, List, [], ◌∷◌, Option, Some, None}
use Rattle.std.specs.Borrow.{Bor}
use Rattle.indus_tree.specs.Tree.{Decl}
use Rattle.indus_tree.specs.View.{decl_of}
use Rattle.indus_tree.specs.declared.tree.Decl as code_decl

-- what a read of a number looks up, if it does
abbrev pub as_lookups : (number : ℕ) → Option (Bor code_decl.Decl) → List (ℕ × Decl)
as_lookups n None = []
as_lookups n (Some d) = (n, decl_of d.now) ∷ []
