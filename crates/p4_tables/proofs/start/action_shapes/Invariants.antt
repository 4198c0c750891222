use Rattle.std.proofs.Common.{◌≡◌, map, take}
use Rattle.p4_parts.specs.PartsIn.{action_in}
use Rattle.p4_tables.specs.Programs.{action_shape}
use Rattle.table_shapes.specs.View.{action_shape_of}
use Rattle.value_shapes.specs.Values.{lists_in}
use Rattle.p4_tables.proofs.start.action_shapes.Given as goal

abbrev pub invariant-loop-name : goal.invariant-loop-name
invariant-loop-name l = map action_shape_of l.shapes.items ≡ map (action_shape (map action_in l.actions.actions.now) (lists_in l.params)) (take l.name-index l.names)
