use Rattle.std.proofs.Common.{◌≡◌, ◌+◌, ◌++◌, drop}
use Rattle.indus_tree.specs.View.{block_of}
use Rattle.lowered_code.specs.Statements.{block_end, block_numbers, numbered_reads}
use Rattle.lower_reads.specs.View.{declared, lent, reads_of}
use Rattle.lower_reads.proofs.numbers.+numbers.Given as goal

abbrev pub invariant-stmt_numbers-loop-i : goal.invariant-stmt_numbers-loop-i
invariant-stmt_numbers-loop-i l =
    reads_of l.out.items ++ numbered_reads (declared l.decls) (l.base + l.i) (lent (drop l.i l.reads.items))
    ≡ reads_of l.initial.out.items ++ numbered_reads (declared l.decls) l.base (lent l.reads.items)

abbrev pub invariant-block_numbers-loop-s : goal.invariant-block_numbers-loop-s
invariant-block_numbers-loop-s l = record {
  numbers : reads_of l.out.items ++ block_numbers (declared l.decls) (block_of (drop l.s-index l.block)) l.end ≡ reads_of l.initial.out.items ++ block_numbers (declared l.decls) (block_of l.block) l.base;
  end : block_end (declared l.decls) (block_of (drop l.s-index l.block)) l.end ≡ block_end (declared l.decls) (block_of l.block) l.base;
}
