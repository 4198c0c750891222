use Rattle.std.proofs.Common.{◌≡◌, drop}
use Rattle.indus_tree.specs.View.{block_of}
use Rattle.p4_tree.specs.Tree.{and_then}
use Rattle.p4_tree.specs.View.{stmts_of}
use Rattle.lowered_code.specs.Statements.{block_code, block_end}
use Rattle.lower_reads.specs.View.{declared}
use Rattle.lower_code.specs.View.{environment_of}
use Rattle.lower_code.proofs.statements.+code.Given as goal

abbrev pub invariant-block_code-loop-s : goal.invariant-block_code-loop-s
invariant-block_code-loop-s l = record {
  stmts : and_then (stmts_of l.stmts.items) (block_code (environment_of l.roots) (declared l.decls) (block_of (drop l.s-index l.list)) l.end) ≡ block_code (environment_of l.roots) (declared l.decls) (block_of l.list) l.base;
  end : block_end (declared l.decls) (block_of (drop l.s-index l.list)) l.end ≡ block_end (declared l.decls) (block_of l.list) l.base;
}
