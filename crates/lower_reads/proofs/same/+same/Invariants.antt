use Rattle.std.proofs.Common.{◌≡◌, drop}
use Rattle.indus_tree.specs.View.{exprs_of}
use Rattle.lowered_code.specs.Same.{same_exprs}
use Rattle.lower_reads.proofs.same.+same.Given as goal

abbrev pub invariant-same_exprs-loop-a : goal.invariant-same_exprs-loop-a
invariant-same_exprs-loop-a l = same_exprs (exprs_of (drop l.a-index l.es)) (exprs_of l.right) ≡ same_exprs (exprs_of l.es) (exprs_of l.fs)
