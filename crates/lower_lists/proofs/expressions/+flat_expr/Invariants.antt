use Rattle.std.proofs.Common.{◌≡◌, map, take}
use Rattle.indus_tree.specs.View.{expr_of, property_of}
use Rattle.lower_lists.specs.Flat.{flat_expr}
use Rattle.lower_lists.proofs.expressions.+flat_expr.Given as goal

abbrev pub invariant-flat_exprs-loop-e : goal.invariant-flat_exprs-loop-e
invariant-flat_exprs-loop-e l = map expr_of l.flat.items ≡ map (λ e. flat_expr (property_of l.typed).decls l.bounds (expr_of e)) (take l.e-index l.all)
