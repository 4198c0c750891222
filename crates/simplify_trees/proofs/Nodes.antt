-- The tree that each statement of the program's own stands for.
use Rattle.std.proofs.Common.{◌≡◌, ℕ, List, Option, Some, None, map, sym, ap, ◌∙◌}
use Rattle.std.specs.Option.{option_map}
use Rattle.std.specs.Global.{Box, Vec}
use Rattle.p4_tree.specs.Tree.{Stmt, nothing, block, var, assign, choice, return_, exit_, call}
use Rattle.p4_tree.specs.View.{arg_of, expr_of, else_of, stmt_layer, stmt_of, stmts_of}
use Rattle.p4_tree.specs.declared.statement.PTy.{PTy}
use Rattle.p4_tree.specs.declared.statement.Arg as code_arg
use Rattle.p4_tree.specs.declared.statement.Expr as code_expr
use Rattle.p4_tree.specs.declared.statement.Stmt as code
use Rattle.p4_tree.specs.declared.statement.Stmt.TheFolds.{fold-roll-Stmt}
use Rattle.p4_tree.specs.declared.statement.Stmt.TheVariants as v
use Rattle.p4_tree.specs.declared.statement.Stmt.TheVariants.{rolls-Nothing, rolls-Block, rolls-Var, rolls-Assign, rolls-If, rolls-Return, rolls-Exit, rolls-Call}

pub nothing_node : (p : ℕ) → stmt_of (v.Nothing p) ≡ nothing p
nothing_node p = ap stmt_of (sym (rolls-Nothing p)) ∙ fold-roll-Stmt Stmt stmt_layer _

pub return_node : (p : ℕ) → stmt_of (v.Return p) ≡ return_ p
return_node p = ap stmt_of (sym (rolls-Return p)) ∙ fold-roll-Stmt Stmt stmt_layer _

pub exit_node : (p : ℕ) → stmt_of (v.Exit p) ≡ exit_ p
exit_node p = ap stmt_of (sym (rolls-Exit p)) ∙ fold-roll-Stmt Stmt stmt_layer _

pub block_node : (p : ℕ) (body : Vec code.Stmt) → stmt_of (v.Block p body) ≡ block p (stmts_of body.items)
block_node p body = ap stmt_of (sym (rolls-Block p body)) ∙ fold-roll-Stmt Stmt stmt_layer _

pub var_node : (p : ℕ) (t : PTy) (x : List ℕ) (e : Option code_expr.Expr) → stmt_of (v.Var p t x e) ≡ var p t x (option_map expr_of e)
var_node p t x e = ap stmt_of (sym (rolls-Var p t x e)) ∙ fold-roll-Stmt Stmt stmt_layer _

pub assign_node : (p : ℕ) (x : Vec (List ℕ)) (e : code_expr.Expr) → stmt_of (v.Assign p x e) ≡ assign p x.items (expr_of e)
assign_node p x e = ap stmt_of (sym (rolls-Assign p x e)) ∙ fold-roll-Stmt Stmt stmt_layer _

pub call_node : (p : ℕ) (x : Vec (List ℕ)) (xs : Vec code_arg.Arg) → stmt_of (v.Call p x xs) ≡ call p x.items (map arg_of xs.items)
call_node p x xs = ap stmt_of (sym (rolls-Call p x xs)) ∙ fold-roll-Stmt Stmt stmt_layer _

pub choice_node : (p : ℕ) (e : code_expr.Expr) (a : Box code.Stmt) (b : Option (Box code.Stmt)) → stmt_of (v.If p e a b) ≡ choice p (expr_of e) (stmt_of a.value) (else_of b)
choice_node p e a None = ap stmt_of (sym (rolls-If p e a None)) ∙ fold-roll-Stmt Stmt stmt_layer _
choice_node p e a (Some b) = ap stmt_of (sym (rolls-If p e a (Some b))) ∙ fold-roll-Stmt Stmt stmt_layer _
