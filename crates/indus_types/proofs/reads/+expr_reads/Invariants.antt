use Rattle.std.proofs.Common.{◌≡◌, ◌≤◌, ◌+◌, drop}
use Rattle.indus_tree.specs.View.{exprs_of}
use Rattle.indus_types.specs.Sums.{cut, exprs_reads}
use Rattle.indus_types.proofs.reads.+expr_reads.Given as goal

abbrev pub invariant-exprs_reads-loop-e : goal.invariant-exprs_reads-loop-e
invariant-exprs_reads-loop-e l = (l.sum ≤ 4294967295) × (cut (l.sum + exprs_reads l.variable (exprs_of (drop l.e-index l.all))) ≡ cut (exprs_reads l.variable (exprs_of l.all)))
