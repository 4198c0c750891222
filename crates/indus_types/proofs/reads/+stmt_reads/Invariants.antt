use Rattle.std.proofs.Common.{◌≡◌, ◌≤◌, ◌+◌, map, drop}
use Rattle.indus_tree.specs.View.{decl_of, block_of}
use Rattle.indus_types.specs.Sums.{cut, block_reads}
use Rattle.indus_types.proofs.reads.+stmt_reads.Given as goal

abbrev pub invariant-block_reads-loop-s : goal.invariant-block_reads-loop-s
invariant-block_reads-loop-s l = (l.sum ≤ 4294967295) × (cut (l.sum + block_reads (map decl_of l.decls.decls.now) l.variable (block_of (drop l.s-index l.all))) ≡ cut (block_reads (map decl_of l.decls.decls.now) l.variable (block_of l.all)))
