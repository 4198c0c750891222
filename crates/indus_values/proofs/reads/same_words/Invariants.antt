use Rattle.std.proofs.Common.{◌≡◌, length}
use Rattle.indus_tree.specs.Keys.{same_words}
use Rattle.indus_values.proofs.reads.same_words.Given as goal

abbrev pub invariant-loop-left : goal.invariant-loop-left
invariant-loop-left l = same_words l.left l.right ≡ same_words l.a l.b

abbrev pub decreases-loop-left : goal.decreases-loop-left
decreases-loop-left l = length l.left
