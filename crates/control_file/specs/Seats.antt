-- The places among control variables, as a list for all declarations.
use Rattle.std.specs.Prelude.{ℕ, ◌+◌, List, [], ◌∷◌, take, if◌then◌else◌}
use Rattle.indus_tree.specs.Tree.{Decl}
use Rattle.indus_tree.specs.Hops.{same_kind}
use Rattle.indus_tree.specs.declared.tree.DeclKind.{DeclKind}
use Rattle.indus_tree.specs.declared.tree.DeclKind.TheVariants.{Control}
use Rattle.indus_values.specs.View.{seats}
use Rattle.control_file.specs.Control.{Variable}

-- 1 for a control variable
abbrev pub one_if_control : DeclKind → ℕ
one_if_control kind = if same_kind Control kind then 1 else 0

-- how many control variables stand before each declaration, where so many stand before the first
abbrev pub seat_numbers : (before : ℕ) → List Decl → List ℕ
seat_numbers n [] = []
seat_numbers n (d ∷ ds) = n ∷ seat_numbers (n + one_if_control d.kind) ds

-- a control variable by its place among them
abbrev pub seat_of : List Decl → Variable → ℕ × Decl
seat_of ds v = (seats Control (take v.number ds), v.decl)
