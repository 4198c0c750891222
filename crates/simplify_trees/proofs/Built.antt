-- Trees that are made, from what each call gives.
use Rattle.std.proofs.Common.{◌≡◌, ℕ, List, [], ◌∷◌, true, false, Option, Some, None, Result, Ok, Err, IfOk, sym, subst}
use Rattle.std.specs.List.{AllZip}
use Rattle.p4_tree.specs.Tree.{Expr, Stmt, MaybeStmt, without, otherwise, Local, local_register, local_const, Top}
use Rattle.p4_tree.specs.View.{expr_of, stmt_of, stmts_of, local_of, top_of}
use Rattle.p4_tree.specs.declared.statement.PTy.{PTy}
use Rattle.p4_tree.specs.declared.statement.Expr as code
use Rattle.p4_tree.specs.declared.statement.Stmt as code_stmt
use Rattle.p4_tree.specs.declared.program.Register.{Register}
use Rattle.p4_tree.specs.declared.program.Local as code_local
use Rattle.p4_tree.specs.declared.program.Top as code_top
use Rattle.p4_rule_laws.specs.Replaced.{is_outcome}
use Rattle.rewritten_programs.specs.Rewritten.{StartRewritten, no_start, in_start, TestRewritten, outcome, in_test, StmtRewritten, ElseRewritten, no_else, in_else, BlockRewritten, none_left, first_then, LocalRewritten, local_register_stays, local_const_stays, TopRewritten}

module _ (E : Expr → Expr → Type 0) where
  pub no_start_built : (d : Option Expr) → d ≡ None → StartRewritten E d None
  no_start_built d i = subst (λ (x : Option Expr). StartRewritten E x None) (sym i) no_start

  pub start_built : (d : Option Expr) (e f : Expr) → d ≡ Some e → E e f → StartRewritten E d (Some f)
  start_built d e f i r = subst (λ (x : Option Expr). StartRewritten E x (Some f)) (sym i) (in_start r)

  pub outcome_built : {F : Type 0} (e : Expr) (r : Result code.Expr F) → is_outcome e ≡ true → IfOk r (λ f. expr_of f ≡ e) → IfOk r (λ f. TestRewritten E e (expr_of f))
  outcome_built e (Ok f) h k = subst (TestRewritten E e) (sym k) (outcome h)
  outcome_built e (Err x) h k = tt

  pub test_built : {F : Type 0} (e : Expr) (r : Result code.Expr F) → is_outcome e ≡ false → IfOk r (λ f. E e (expr_of f)) → IfOk r (λ f. TestRewritten E e (expr_of f))
  test_built e (Ok f) h k = in_test h k
  test_built e (Err x) h k = tt

  -- a tree that is another's, and one that another is made for
  pub stmt_built : (a b c d : Stmt) → a ≡ b → d ≡ c → StmtRewritten E b c → StmtRewritten E a d
  stmt_built a b c d e f h = subst (λ (x : Stmt). StmtRewritten E x d) (sym e) (subst (λ (x : Stmt). StmtRewritten E b x) (sym f) h)

  pub local_built : (a b c d : Local) → a ≡ b → d ≡ c → LocalRewritten E b c → LocalRewritten E a d
  local_built a b c d e f h = subst (λ (x : Local). LocalRewritten E x d) (sym e) (subst (λ (x : Local). LocalRewritten E b x) (sym f) h)

  pub top_built : (a b c d : Top) → a ≡ b → d ≡ c → TopRewritten E b c → TopRewritten E a d
  top_built a b c d e f h = subst (λ (x : Top). TopRewritten E x d) (sym e) (subst (λ (x : Top). TopRewritten E b x) (sym f) h)

  pub no_else_built : (o : MaybeStmt) → o ≡ without → ElseRewritten E o without
  no_else_built o i = subst (λ (x : MaybeStmt). ElseRewritten E x without) (sym i) no_else

  pub else_built : (o : MaybeStmt) (a b d : Stmt) → o ≡ otherwise a → StmtRewritten E a d → b ≡ d → ElseRewritten E o (otherwise b)
  else_built o a b d i r k = subst (λ (x : MaybeStmt). ElseRewritten E x (otherwise b)) (sym i) (in_else (subst (StmtRewritten E a) (sym k) r))

  -- a block whose statements are made
  pub block_built : (xs ys : List code_stmt.Stmt) → AllZip (λ x y. StmtRewritten E (stmt_of x) (stmt_of y)) xs ys → BlockRewritten E (stmts_of xs) (stmts_of ys)
  block_built [] [] h = none_left
  block_built [] (y ∷ ys) h = absurd h
  block_built (x ∷ xs) [] h = absurd h
  block_built (x ∷ xs) (y ∷ ys) h = first_then h.0 (block_built xs ys h.1)

  -- what stays
  pub register_copied : {F : Type 0} (l : Local) (p : ℕ) (r : Register) → l ≡ local_register p r → (d : Result code_local.Local F) → IfOk d (λ m. local_of m ≡ l) → IfOk d (λ m. LocalRewritten E l (local_of m))
  register_copied l p r i (Ok m) k = subst (LocalRewritten E l) (sym k) (subst (λ (x : Local). LocalRewritten E x x) (sym i) (local_register_stays p r))
  register_copied l p r i (Err x) k = tt

  pub const_copied : {F : Type 0} (l : Local) (p : ℕ) (t : PTy) (x : List ℕ) (e : Expr) → l ≡ local_const p t x e → (d : Result code_local.Local F) → IfOk d (λ m. local_of m ≡ l) → IfOk d (λ m. LocalRewritten E l (local_of m))
  const_copied l p t x e i (Ok m) k = subst (LocalRewritten E l) (sym k) (subst (λ (y : Local). LocalRewritten E y y) (sym i) (local_const_stays p t x e))
  const_copied l p t x e i (Err z) k = tt

  pub top_copied : {F : Type 0} (t u : Top) → t ≡ u → TopRewritten E u u → (d : Result code_top.Top F) → IfOk d (λ m. top_of m ≡ t) → IfOk d (λ m. TopRewritten E t (top_of m))
  top_copied t u i r (Ok m) k = subst (TopRewritten E t) (sym k) (subst (λ (y : Top). TopRewritten E y y) (sym i) r)
  top_copied t u i r (Err z) k = tt
