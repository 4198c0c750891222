-- What the values of the program stand for. Read `Shapes` before it.
use Rattle.std.specs.Prelude.{map}
use Rattle.table_shapes.specs.Shapes.{ActionShape, Shape}
use Rattle.table_shapes.specs.declared.shape.ActionShape as code_action
use Rattle.table_shapes.specs.declared.shape.Shape as code_shape

-- an action of a table's list, and what a table takes
abbrev pub action_shape_of : code_action.ActionShape → ActionShape
action_shape_of a = record { number = a.number; params = a.params.items }

abbrev pub shape_of : code_shape.Shape → Shape
shape_of s = record { keys = s.keys.items; actions = map action_shape_of s.actions.items; written = s.written; written_args = s.written_args.items; fixed = s.fixed }
