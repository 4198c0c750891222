use Rattle.std.proofs.Common.{◌≡◌, drop}
use Rattle.indus_tree.specs.Keys.{has_item}
use Rattle.indus_values.proofs.reads.has_item.Given as goal

abbrev pub invariant-loop-x : goal.invariant-loop-x
invariant-loop-x l = has_item (drop l.x-index l.words) l.fn.w ≡ has_item l.words l.fn.w
