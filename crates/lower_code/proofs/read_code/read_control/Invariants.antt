use Rattle.std.proofs.Common.{◌≡◌, drop, [], ◌∷◌}
use Rattle.indus_tree.specs.State.{shape_width}
use Rattle.indus_tree.specs.View.{exprs_of, decl_of}
use Rattle.p4_tree.specs.Tree.{done, next, and_then}
use Rattle.p4_tree.specs.View.{stmts_of}
use Rattle.lowered_code.specs.Reads.{apply, keyed, read_control}
use Rattle.lower_reads.specs.View.{declared, lent}
use Rattle.lower_code.specs.View.{environment_of}
use Rattle.lower_code.proofs.read_code.read_control.Given as goal

abbrev pub invariant-loop-part : goal.invariant-loop-part
invariant-loop-part l =
    and_then (stmts_of l.out.items)
    (keyed (environment_of l.place.roots.now) (declared l.place.decls.now) l.place.base (lent l.place.reads.now) l.read l.part (drop l.part l.types) (exprs_of (drop l.part l.key))
    (next (apply (environment_of l.place.roots.now) (declared l.place.decls.now) l.place.base l.read) done))
    ≡ read_control (environment_of l.place.roots.now) (declared l.place.decls.now) l.place.base (lent l.place.reads.now) l.read (decl_of l.d) (exprs_of l.key)
