use Rattle.std.proofs.Common.{◌≡◌, ◌||◌, false, drop}
use Rattle.p4_tree.specs.Tree.{and_then}
use Rattle.p4_tree.specs.View.{stmts_of}
use Rattle.exit_statements.specs.Without.{stmts_leave, stmts_without}
use Rattle.exit_programs.specs.Programs.{flags}
use Rattle.exit_rewriting.specs.Exiting.{body_of, exits_by}
use Rattle.exit_rewriting.proofs.statements.+without.Given as goal

-- what is written, and then what becomes of the rest, is the whole
abbrev pub invariant-stmts_without-loop-s : goal.invariant-stmts_without-loop-s
invariant-stmts_without-loop-s l = record {
  written : and_then (stmts_of l.out.items) (stmts_without flags (exits_by l.exiting l.place) (body_of l.body) l.left (stmts_of (drop l.s-index l.list)))
      ≡ stmts_without flags (exits_by l.exiting l.place) (body_of l.body) false (stmts_of l.list);
  leaves : (l.left || stmts_leave (exits_by l.exiting l.place) (stmts_of (drop l.s-index l.list))) ≡ stmts_leave (exits_by l.exiting l.place) (stmts_of l.list);
}
