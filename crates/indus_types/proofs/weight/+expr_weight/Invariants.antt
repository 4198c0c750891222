use Rattle.std.proofs.Common.{◌≡◌, ◌≤◌, ◌+◌, map, drop}
use Rattle.indus_tree.specs.View.{decl_of, exprs_of}
use Rattle.indus_types.specs.Sums.{cut, exprs_weight}
use Rattle.indus_types.proofs.weight.+expr_weight.Given as goal

abbrev pub invariant-exprs_weight-loop-e : goal.invariant-exprs_weight-loop-e
invariant-exprs_weight-loop-e l = (l.sum ≤ 4294967295) × (cut (l.sum + exprs_weight (map decl_of l.decls.decls.now) (exprs_of (drop l.e-index l.all))) ≡ cut (exprs_weight (map decl_of l.decls.decls.now) (exprs_of l.all)))
