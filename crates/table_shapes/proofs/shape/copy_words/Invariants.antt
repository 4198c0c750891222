use Rattle.std.proofs.Common.{◌≡◌, take}
use Rattle.table_shapes.proofs.shape.copy_words.Given as goal

abbrev pub invariant-loop-w : goal.invariant-loop-w
invariant-loop-w l = l.copies.items ≡ take l.w-index l.list
