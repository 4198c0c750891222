use Rattle.std.proofs.Common.{◌≡◌, take}
use Rattle.table_shapes.proofs.shape.copy_keys.Given as goal

abbrev pub invariant-loop-k : goal.invariant-loop-k
invariant-loop-k l = l.copies.items ≡ take l.k-index l.list
