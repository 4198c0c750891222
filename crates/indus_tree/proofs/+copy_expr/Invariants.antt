use Rattle.std.proofs.Common.{◌≡◌, map, take}
use Rattle.indus_tree.specs.View.{expr_of}
use Rattle.indus_tree.proofs.+copy_expr.Given as goal

abbrev pub invariant-copy::copy_all-loop-e : goal.invariant-copy::copy_all-loop-e
invariant-copy::copy_all-loop-e l = map expr_of l.copies.items ≡ map expr_of (take l.e-index l.all)
