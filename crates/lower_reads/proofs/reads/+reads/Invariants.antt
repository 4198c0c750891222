use Rattle.std.proofs.Common.{◌≡◌, drop}
use Rattle.indus_tree.specs.View.{exprs_of}
use Rattle.lowered_code.specs.Reads.{all_reads}
use Rattle.lower_reads.specs.View.{declared, lent}
use Rattle.lower_reads.proofs.reads.+reads.Given as goal

abbrev pub invariant-exprs_reads-loop-e : goal.invariant-exprs_reads-loop-e
invariant-exprs_reads-loop-e l = all_reads (declared l.decls) (exprs_of (drop l.e-index l.all)) (lent l.reads.items) ≡ all_reads (declared l.decls) (exprs_of l.all) (lent l.initial.reads.items)
