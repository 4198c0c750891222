-- Trees of operators and of choices, as the code has them.
use Rattle.std.proofs.Common.{◌≡◌, ℕ, sym, ap, ◌∙◌}
use Rattle.std.specs.Global.{Box}
use Rattle.p4_tree.specs.Tree.{binary, conditional}
use Rattle.p4_tree.specs.View.{expr_of, expr_layer}
use Rattle.p4_tree.specs.Tree.{Expr}
use Rattle.p4_tree.specs.declared.statement.Op.{Op}
use Rattle.p4_tree.specs.declared.statement.Expr as code_expr
use Rattle.p4_tree.specs.declared.statement.Expr.TheVariants as expr
use Rattle.p4_tree.specs.declared.statement.Expr.TheOpen as open_expr

pub expr_of-Bin : (p : ℕ) (op : Op) (a b : Box code_expr.Expr) → expr_of (expr.Bin p op a b) ≡ binary p op (expr_of a.value) (expr_of b.value)
expr_of-Bin p op a b = ap expr_of (sym (expr.rolls-Bin p op a b)) ∙ code_expr.fold-roll-Expr Expr expr_layer (open_expr.Bin p op a b)

pub expr_of-Choice : (p : ℕ) (t a b : Box code_expr.Expr) → expr_of (expr.Choice p t a b) ≡ conditional p (expr_of t.value) (expr_of a.value) (expr_of b.value)
expr_of-Choice p t a b = ap expr_of (sym (expr.rolls-Choice p t a b)) ∙ code_expr.fold-roll-Expr Expr expr_layer (open_expr.Choice p t a b)
