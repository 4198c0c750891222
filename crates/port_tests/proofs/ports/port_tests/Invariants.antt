use Rattle.std.proofs.Common.{◌≡◌, [], ◌∷◌, map, take}
use Rattle.p4_tree.specs.View.{expr_of}
use Rattle.linked_halves.specs.Statements.{port_test}
use Rattle.port_tests.proofs.ports.port_tests.Given as goal

abbrev pub invariant-loop-port : goal.invariant-loop-port
invariant-loop-port l = map expr_of l.tests.items ≡ map (port_test (l.root ∷ l.field ∷ [])) (take l.port-index l.ports)
