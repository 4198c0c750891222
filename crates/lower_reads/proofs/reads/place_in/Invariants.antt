use Rattle.std.proofs.Common.{◌≡◌, ◌+◌, drop}
use Rattle.indus_tree.specs.View.{expr_of}
use Rattle.lowered_code.specs.Expressions.{place_in}
use Rattle.lower_reads.specs.View.{lent}
use Rattle.lower_reads.proofs.reads.place_in.Given as goal

abbrev pub invariant-loop-i : goal.invariant-loop-i
invariant-loop-i l = l.i + place_in (lent (drop l.i l.reads)) (expr_of l.e) ≡ place_in (lent l.reads) (expr_of l.e)
