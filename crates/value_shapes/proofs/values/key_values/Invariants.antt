use Rattle.std.proofs.Common.{◌≡◌, ◌++◌, map, drop}
use Rattle.p4_tree.specs.View.{key_of}
use Rattle.p4_scopes.specs.View.{scope_of}
use Rattle.value_shapes.specs.Values.{key_values}
use Rattle.value_shapes.proofs.values.key_values.Given as goal

abbrev pub invariant-loop-k : goal.invariant-loop-k
invariant-loop-k l = l.values.items ++ key_values (scope_of l.scope) (map key_of (drop l.k-index l.keys)) ≡ key_values (scope_of l.scope) (map key_of l.keys)
