use Rattle.std.proofs.Common.{◌≡◌, drop}
use Rattle.indus_tree.specs.View.{expr_of}
use Rattle.lowered_code.specs.Expressions.{is_in}
use Rattle.lower_reads.specs.View.{lent}
use Rattle.lower_reads.proofs.reads.is_in.Given as goal

abbrev pub invariant-loop-r : goal.invariant-loop-r
invariant-loop-r l = is_in (lent (drop l.r-index l.reads)) (expr_of l.e) ≡ is_in (lent l.reads) (expr_of l.e)
