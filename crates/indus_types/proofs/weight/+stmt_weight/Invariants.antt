use Rattle.std.proofs.Common.{◌≡◌, ◌≤◌, ◌+◌, map, drop}
use Rattle.indus_tree.specs.View.{decl_of, block_of}
use Rattle.indus_types.specs.Sums.{cut, block_weight}
use Rattle.indus_types.proofs.weight.+stmt_weight.Given as goal

abbrev pub invariant-block_weight-loop-s : goal.invariant-block_weight-loop-s
invariant-block_weight-loop-s l = (l.sum ≤ 4294967295) × (cut (l.sum + block_weight (map decl_of l.decls.decls.now) (block_of (drop l.s-index l.all))) ≡ cut (block_weight (map decl_of l.decls.decls.now) (block_of l.all)))
