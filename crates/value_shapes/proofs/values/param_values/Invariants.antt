use Rattle.std.proofs.Common.{◌≡◌, ◌++◌, drop}
use Rattle.p4_scopes.specs.View.{scope_of}
use Rattle.value_shapes.specs.Values.{param_values}
use Rattle.value_shapes.proofs.values.param_values.Given as goal

abbrev pub invariant-loop-p : goal.invariant-loop-p
invariant-loop-p l = l.values.items ++ param_values (scope_of l.scope) (drop l.p-index l.params) ≡ param_values (scope_of l.scope) l.params
