-- No `exit` and no `return` is left, and what cannot leave stays.
use Rattle.std.proofs.Common.{◌≡◌, ℕ, List, Bool, true, false, ◌||◌, Option, Some, None, refl, ap, ap₂, ◌∙◌}
use Rattle.p4_tree.specs.Tree.{Stmt, Stmts, MaybeStmt, nothing, block, var, assign, choice, return_, exit_, call, done, next, without, otherwise}
use Rattle.p4_meaning.specs.Statements.{Act, makes, drops, reads, writes, tells, sums, runs, applies, idle, act_of, application}
use Rattle.exit_statements.specs.Without.{Body, in_action, in_control, Flags, exit_in, Exits, no_exits, table_leaves, test_leaves, call_leaves, stmt_leaves, else_leaves, stmts_leave, is_var, in_list, in_branch, stmt_without, else_without, stmts_without}
use Rattle.exit_statements.proofs.Runs.{or_left, or_right}

neither : (a b : Bool) → a ≡ false → b ≡ false → (a || b) ≡ false
neither true b h k = h
neither false b h k = k

no_call : (k : Act) → call_leaves no_exits k ≡ false
no_call (makes x b) = refl
no_call drops = refl
no_call (reads x t i) = refl
no_call (writes x i v) = refl
no_call (tells x es) = refl
no_call (sums b e es p) = refl
no_call (runs x es) = refl
no_call (applies t) = refl
no_call idle = refl

no_table : (t : Option (List ℕ × Bool)) → table_leaves no_exits t ≡ false
no_table None = refl
no_table (Some t) = refl

module _ (n : Flags) (m : Exits) (body : Body) where
  exit_none : (body : Body) → stmt_leaves no_exits (exit_in n body) ≡ false
  exit_none in_action = refl
  exit_none in_control = refl

  guard_none : (s : Stmt) → stmt_leaves no_exits s ≡ false → (stmt_leaves no_exits s || false) ≡ false
  guard_none s h = neither (stmt_leaves no_exits s) false h refl

  list_none : (l v : Bool) (s : Stmt) → stmt_leaves no_exits s ≡ false → stmt_leaves no_exits (in_list n m body l v s) ≡ false
  list_none false v s h = h
  list_none true true s h = h
  list_none true false s h = guard_none s h

  branch_none : (l : Bool) (s : Stmt) → stmt_leaves no_exits s ≡ false → stmt_leaves no_exits (in_branch n m body l s) ≡ false
  branch_none true s h = neither (stmt_leaves no_exits s || false) false (guard_none s h) refl
  branch_none false s h = h

  mutual
    stmt_none : (s : Stmt) → stmt_leaves no_exits (stmt_without n m body s) ≡ false
    stmt_none (nothing p) = refl
    stmt_none (block p ss) = stmts_none false ss
    stmt_none (var p ty x e) = refl
    stmt_none (assign p target e) = refl
    stmt_none (choice p e s t) = neither _ _ (no_table (application e)) (neither _ _ (branch_none (test_leaves m e) (stmt_without n m body s) (stmt_none s)) (else_none (test_leaves m e) t))
    stmt_none (return_ p) = refl
    stmt_none (exit_ p) = exit_none body
    stmt_none (call p callee args) = no_call (act_of callee args)

    else_none : (l : Bool) (s : MaybeStmt) → else_leaves no_exits (else_without n m body l s) ≡ false
    else_none l without = refl
    else_none l (otherwise s) = branch_none l (stmt_without n m body s) (stmt_none s)

    pub stmts_none : (l : Bool) (ss : Stmts) → stmts_leave no_exits (stmts_without n m body l ss) ≡ false
    stmts_none l done = refl
    stmts_none l (next s ss) = neither _ _ (list_none l (is_var s) (stmt_without n m body s) (stmt_none s)) (stmts_none (l || stmt_leaves m s) ss)

  mutual
    stmt_same : (s : Stmt) → stmt_leaves m s ≡ false → stmt_without n m body s ≡ s
    stmt_same (nothing p) h = refl
    stmt_same (block p ss) h = ap (block p) (stmts_same ss h)
    stmt_same (var p ty x e) h = refl
    stmt_same (assign p target e) h = refl
    stmt_same (choice p e s t) h =
        ap₂ (choice p e) (ap (λ l. in_branch n m body l (stmt_without n m body s)) (or_left (test_leaves m e) _ h) ∙ stmt_same s (or_left (stmt_leaves m s) _ (or_right (test_leaves m e) _ h)))
        (ap (λ l. else_without n m body l t) (or_left (test_leaves m e) _ h) ∙ else_same t (or_right (stmt_leaves m s) _ (or_right (test_leaves m e) _ h)))
    stmt_same (return_ p) h = absurd (cc h)
    stmt_same (exit_ p) h = absurd (cc h)
    stmt_same (call p callee args) h = refl

    else_same : (s : MaybeStmt) → else_leaves m s ≡ false → else_without n m body false s ≡ s
    else_same without h = refl
    else_same (otherwise s) h = ap otherwise (stmt_same s h)

    pub stmts_same : (ss : Stmts) → stmts_leave m ss ≡ false → stmts_without n m body false ss ≡ ss
    stmts_same done h = refl
    stmts_same (next s ss) h =
        ap₂ next (stmt_same s (or_left (stmt_leaves m s) _ h)) (ap (λ l. stmts_without n m body l ss) (or_left (stmt_leaves m s) _ h) ∙ stmts_same ss (or_right (stmt_leaves m s) _ h))
