use Rattle.std.proofs.Common.{◌≡◌, map, drop}
use Rattle.table_shapes.specs.Shapes.{has_action}
use Rattle.table_shapes.specs.View.{action_shape_of}
use Rattle.table_shapes.proofs.shape.has_action.Given as goal

abbrev pub invariant-loop-a : goal.invariant-loop-a
invariant-loop-a l = has_action (map action_shape_of (drop l.a-index l.actions)) l.number ≡ has_action (map action_shape_of l.actions) l.number
