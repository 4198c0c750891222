use Rattle.std.proofs.Common.{◌≡◌, ◌++◌, length, map}
use Rattle.p4_tree.specs.View.{expr_of}
use Rattle.linked_halves.specs.Statements.{joined_pairs}
use Rattle.port_tests.proofs.ports.joined_pairs.Given as goal

abbrev pub decreases-loop-one : goal.decreases-loop-one
decreases-loop-one l = length l.rest.rest.items

abbrev pub invariant-loop-one : goal.invariant-loop-one
invariant-loop-one l =
    map expr_of l.pairs.items ++ joined_pairs (map expr_of l.rest.rest.items) ≡ joined_pairs (map expr_of l.fn.tests.items)
