-- What trees the recursive variants stand for.
use Rattle.std.proofs.Common.{◌≡◌, ℕ, Option, Some, None, sym, ap, ◌∙◌}
use Rattle.std.specs.Global.{Box}
use Rattle.p4_tree.specs.Tree.{Expr, binary, conditional, Stmt, choice}
use Rattle.p4_tree.specs.View.{expr_of, expr_layer, stmt_of, stmt_layer, else_of}
use Rattle.p4_tree.specs.declared.statement.Op.{Op}
use Rattle.p4_tree.specs.declared.statement.Expr as code_expr
use Rattle.p4_tree.specs.declared.statement.Expr.TheVariants as expr
use Rattle.p4_tree.specs.declared.statement.Expr.TheOpen as open_expr
use Rattle.p4_tree.specs.declared.statement.Stmt as code_stmt
use Rattle.p4_tree.specs.declared.statement.Stmt.TheVariants as stmt
use Rattle.p4_tree.specs.declared.statement.Stmt.TheOpen as open_stmt

-- an operator
pub expr_of-Bin : (p : ℕ) (op : Op) (a b : Box code_expr.Expr) → expr_of (expr.Bin p op a b) ≡ binary p op (expr_of a.value) (expr_of b.value)
expr_of-Bin p op a b = ap expr_of (sym (expr.rolls-Bin p op a b)) ∙ code_expr.fold-roll-Expr Expr expr_layer (open_expr.Bin p op a b)

-- a value that is chosen
pub expr_of-Choice : (p : ℕ) (t a b : Box code_expr.Expr) → expr_of (expr.Choice p t a b) ≡ conditional p (expr_of t.value) (expr_of a.value) (expr_of b.value)
expr_of-Choice p t a b = ap expr_of (sym (expr.rolls-Choice p t a b)) ∙ code_expr.fold-roll-Expr Expr expr_layer (open_expr.Choice p t a b)

-- a choice
pub stmt_of-If : (p : ℕ) (e : code_expr.Expr) (a : Box code_stmt.Stmt) (b : Option (Box code_stmt.Stmt)) → stmt_of (stmt.If p e a b) ≡ choice p (expr_of e) (stmt_of a.value) (else_of b)
stmt_of-If p e a None = ap stmt_of (sym (stmt.rolls-If p e a None)) ∙ code_stmt.fold-roll-Stmt Stmt stmt_layer (open_stmt.If p e a None)
stmt_of-If p e a (Some b) = ap stmt_of (sym (stmt.rolls-If p e a (Some b))) ∙ code_stmt.fold-roll-Stmt Stmt stmt_layer (open_stmt.If p e a (Some b))
