use Rattle.std.proofs.Common.{◌≡◌, ◌++◌, drop, map}
use Rattle.indus_tree.specs.View.{exprs_of}
use Rattle.p4_tree.specs.View.{expr_of}
use Rattle.lowered_code.specs.Expressions.{lowered_all}
use Rattle.lower_reads.specs.View.{declared, lent}
use Rattle.lower_code.specs.View.{environment_of}
use Rattle.lower_code.proofs.expressions.lowered_all.Given as goal

abbrev pub invariant-loop-e : goal.invariant-loop-e
invariant-loop-e l =
    map expr_of l.out.items ++ lowered_all (environment_of l.place.roots.now) (declared l.place.decls.now) l.place.base (lent l.place.reads.now) (exprs_of (drop l.e-index l.all))
    ≡ lowered_all (environment_of l.place.roots.now) (declared l.place.decls.now) l.place.base (lent l.place.reads.now) (exprs_of l.all)
