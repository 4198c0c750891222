use Rattle.std.proofs.Common.{◌≡◌, map, take}
use Rattle.indus_tree.specs.View.{stmt_of}
use Rattle.indus_tree.proofs.+copy_stmt.Given as goal

abbrev pub invariant-copy::copy_block-loop-s : goal.invariant-copy::copy_block-loop-s
invariant-copy::copy_block-loop-s l = map stmt_of l.copies.items ≡ map stmt_of (take l.s-index l.block)
