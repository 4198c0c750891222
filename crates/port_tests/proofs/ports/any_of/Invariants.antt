use Rattle.std.proofs.Common.{◌≡◌, ◌++◌, [], ◌∷◌, length, map}
use Rattle.p4_tree.specs.View.{expr_of}
use Rattle.linked_halves.specs.Statements.{any_of}
use Rattle.port_tests.proofs.ports.any_of.Given as goal

abbrev pub decreases-loop-one : goal.decreases-loop-one
decreases-loop-one l = length l.tests.items

abbrev pub invariant-loop-one : goal.invariant-loop-one
invariant-loop-one l = any_of (map expr_of l.tests.items ++ expr_of l.all ∷ []) ≡ any_of (map expr_of l.fn.tests.items)
