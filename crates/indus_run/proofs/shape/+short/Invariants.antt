use Rattle.std.proofs.Common.{◌≡◌, drop}
use Rattle.indus_tree.specs.View.{block_of}
use Rattle.indus_run.specs.Reports.{are_short}
use Rattle.indus_run.proofs.shape.+short.Given as goal

abbrev pub invariant-are_short-loop-s : goal.invariant-are_short-loop-s
invariant-are_short-loop-s l = are_short (block_of (drop l.s-index l.block)) ≡ are_short (block_of l.block)
