-- Statements without exits give as many digests. A call may give more than the greatest sum, so that single statements
-- are compared within it.
use Rattle.std.proofs.Common.{◌≡◌, ℕ, max, Bool, true, false, ◌||◌, refl, sym, ap, ◌∙◌, arith}
use Rattle.p4_tree.specs.Tree.{Expr, Stmt, Stmts, MaybeStmt, nothing, block, var, assign, choice, return_, exit_, call, done, next, without, otherwise}
use Rattle.p4_scopes.specs.Scopes.{Scope, add_up}
use Rattle.p4_declaration_rules.specs.Digests.{most_of_test, most_of_stmt, most_of_else, most_of}
use Rattle.p4_rule_laws.specs.Old.{Names, Alike, OldExpr, OldStmt, OldStmts, OldElse}
use Rattle.p4_rule_laws.proofs.AlikeStmts.{most_alike}
use Rattle.exit_statements.specs.Without.{Body, in_action, in_control, Flags, exit_in, Exits, test_leaves, stmt_leaves, is_var, in_list, in_branch, stmt_without, else_without, stmts_without}

-- ---- sums that stop

alone : (a x : ℕ) → add_up a 0 ≡ add_up x 0 → add_up 0 a ≡ add_up 0 x
alone a x e = omega arith

of_test : (a x : ℕ) → add_up (add_up a (max 0 0)) 0 ≡ add_up (add_up x (max 0 0)) 0 → add_up 0 a ≡ add_up 0 x
of_test a x e = omega arith

of_choice : (a b c x y z : ℕ) → add_up 0 a ≡ add_up 0 x → add_up 0 b ≡ add_up 0 y → add_up 0 c ≡ add_up 0 z → add_up 0 (add_up a (max b c)) ≡ add_up 0 (add_up x (max y z))
of_choice a b c x y z e f g = omega arith

of_list : (a b x y : ℕ) → add_up 0 a ≡ add_up 0 x → b ≡ y → add_up a b ≡ add_up x y
of_list a b x y e f = omega arith

of_guard : (a : ℕ) → add_up 0 (add_up 0 (max a 0)) ≡ add_up 0 a
of_guard a = omega arith

of_branch : (a : ℕ) → add_up 0 (add_up (add_up 0 (max a 0)) 0) ≡ add_up 0 a
of_branch a = omega arith

module _ (n : Flags) (m : Exits) (body : Body) (old : Names) (s t : Scope) (a : Alike old s t) where
  test_count : (e : Expr) → OldExpr old e → add_up 0 (most_of_test t e) ≡ add_up 0 (most_of_test s e)
  test_count e o = of_test (most_of_test t e) (most_of_test s e) (sym (most_alike old s t a (next (choice 0 e (nothing 0) without) done) ((o, tt, tt), tt)))

  call_count : (c : Stmt) → OldStmt old c → add_up 0 (most_of_stmt t c) ≡ add_up 0 (most_of_stmt s c)
  call_count c o = alone (most_of_stmt t c) (most_of_stmt s c) (sym (most_alike old s t a (next c done) (o, tt)))

  list_count : (l v : Bool) (c : Stmt) → add_up 0 (most_of_stmt t (in_list n m body l v c)) ≡ add_up 0 (most_of_stmt t c)
  list_count false v c = refl
  list_count true true c = refl
  list_count true false c = of_guard (most_of_stmt t c)

  branch_count : (l : Bool) (c : Stmt) → add_up 0 (most_of_stmt t (in_branch n m body l c)) ≡ add_up 0 (most_of_stmt t c)
  branch_count false c = refl
  branch_count true c = of_branch (most_of_stmt t c)

  exit_count : (body : Body) → add_up 0 (most_of_stmt t (exit_in n body)) ≡ add_up 0 0
  exit_count in_action = refl
  exit_count in_control = refl

  mutual
    stmt_count : (c : Stmt) → OldStmt old c → add_up 0 (most_of_stmt t (stmt_without n m body c)) ≡ add_up 0 (most_of_stmt s c)
    stmt_count (nothing p) o = refl
    stmt_count (block p b) o = ap (add_up 0) (stmts_count false b o)
    stmt_count (var p y x e) o = refl
    stmt_count (assign p x e) o = refl
    stmt_count (choice p e b c) o =
        of_choice (most_of_test t e) (most_of_stmt t (in_branch n m body (test_leaves m e) (stmt_without n m body b))) (most_of_else t (else_without n m body (test_leaves m e) c)) (most_of_test s e) (most_of_stmt s b) (most_of_else s c)
        (test_count e o.0) (branch_count (test_leaves m e) (stmt_without n m body b) ∙ stmt_count b o.1) (else_count (test_leaves m e) c o.2)
    stmt_count (return_ p) o = refl
    stmt_count (exit_ p) o = exit_count body
    stmt_count (call p x args) o = call_count (call p x args) o

    else_count : (l : Bool) (c : MaybeStmt) → OldElse old c → add_up 0 (most_of_else t (else_without n m body l c)) ≡ add_up 0 (most_of_else s c)
    else_count l without o = refl
    else_count l (otherwise c) o = branch_count l (stmt_without n m body c) ∙ stmt_count c o

    pub stmts_count : (l : Bool) (b : Stmts) → OldStmts old b → most_of t (stmts_without n m body l b) ≡ most_of s b
    stmts_count l done o = refl
    stmts_count l (next c b) o =
        of_list (most_of_stmt t (in_list n m body l (is_var c) (stmt_without n m body c))) (most_of t (stmts_without n m body (l || stmt_leaves m c) b)) (most_of_stmt s c) (most_of s b)
        (list_count l (is_var c) (stmt_without n m body c) ∙ stmt_count c o.0) (stmts_count (l || stmt_leaves m c) b o.1)
