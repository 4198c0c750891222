use Rattle.std.proofs.Common.{◌≡◌, ◌+◌, drop, take, []}
use Rattle.p4_tree.specs.Tree.{and_then}
use Rattle.p4_tree.specs.View.{stmts_of}
use Rattle.lowered_code.specs.Reads.{reads_stmts}
use Rattle.lower_reads.specs.View.{declared, lent}
use Rattle.lower_code.specs.View.{environment_of}
use Rattle.lower_code.proofs.read_code.reads_stmts.Given as goal

abbrev pub invariant-loop-i : goal.invariant-loop-i
invariant-loop-i l =
    and_then (stmts_of l.out.items)
    (reads_stmts (environment_of l.place.roots.now) (declared l.place.decls.now) l.place.base (lent (take l.i l.place.reads.now)) (l.place.base + l.i) (lent (drop l.i l.place.reads.now)))
    ≡ reads_stmts (environment_of l.place.roots.now) (declared l.place.decls.now) l.place.base [] l.place.base (lent l.place.reads.now)
