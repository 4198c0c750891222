use Rattle.std.proofs.Common.{◌≡◌, take}
use Rattle.table_shapes.proofs.shape.copy_values.Given as goal

abbrev pub invariant-loop-v : goal.invariant-loop-v
invariant-loop-v l = l.copies.items ≡ take l.v-index l.list
