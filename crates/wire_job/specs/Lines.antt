-- The line of a property that `wire` does not take.
use Rattle.std.specs.Prelude.{ℕ, List, ◌∷◌, ◌++◌, [], codes}

-- a property that declares a control variable, whose name is said
abbrev pub control_line : (file name : List ℕ) → List ℕ
control_line file name = codes "hydra: property " ++ (file ++ (codes " NeedsControl " ++ (name ++ 10 ∷ [])))
