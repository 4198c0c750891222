use Rattle.std.proofs.Common.{◌≡◌, map, take}
use Rattle.table_shapes.specs.View.{action_shape_of}
use Rattle.table_shapes.proofs.shape.copy_actions.Given as goal

abbrev pub invariant-loop-a : goal.invariant-loop-a
invariant-loop-a l = map action_shape_of l.copies.items ≡ map action_shape_of (take l.a-index l.list)
