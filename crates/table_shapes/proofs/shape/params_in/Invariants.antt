use Rattle.std.proofs.Common.{◌≡◌, map, drop}
use Rattle.table_shapes.specs.Shapes.{params_in}
use Rattle.table_shapes.specs.View.{action_shape_of}
use Rattle.table_shapes.proofs.shape.params_in.Given as goal

abbrev pub invariant-loop-a : goal.invariant-loop-a
invariant-loop-a l = params_in (map action_shape_of (drop l.a-index l.actions)) l.number ≡ params_in (map action_shape_of l.actions) l.number
