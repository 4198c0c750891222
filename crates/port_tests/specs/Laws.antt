-- What holds of tests of ports.
use Rattle.std.specs.Prelude.{ℕ, ◌≤◌, List, length}
use Rattle.p4_tree.specs.Height.{expr_height}
use Rattle.linked_halves.specs.Statements.{is_port_of}

-- the test of 512 ports is no higher than 11
abbrev pub TestsAreLow : Type 0
TestsAreLow = (path : List (List ℕ)) (ports : List ℕ) → length ports ≤ 512 → expr_height (is_port_of path ports) ≤ 11
