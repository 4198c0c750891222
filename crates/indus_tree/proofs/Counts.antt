-- How many expressions a list has.
use Rattle.std.proofs.Common.{◌≡◌, length, map, List, [], ◌∷◌, refl, arith}
use Rattle.indus_tree.specs.Tree.{exprs_from, exprs_count}
use Rattle.indus_tree.specs.View.{expr_of}
use Rattle.indus_tree.specs.declared.tree.Expr.{Expr}

pub counted : (es : List Expr) → exprs_count (exprs_from (map expr_of es)) ≡ length es
counted [] = refl
counted (e ∷ es) = let more : exprs_count (exprs_from (map expr_of es)) ≡ length es = counted es in omega (arith, more)
