-- Statements of the same meaning without `exit` and `return`. Two flags say what has been left: one, a variable of the
-- control, that the control is at its end; the other, a variable of each action, that the action is. What stands behind a
-- statement that may leave runs where the flag is not set. Declarations stay outside the guards, so that what they declare
-- stays in sight; to run them does no harm. Read `Statements` of the meaning before it.
use Rattle.std.specs.Prelude.{ℕ, List, [], ◌∷◌, Bool, true, false, ◌||◌, Option, Some, None}
use Rattle.p4_tree.specs.Tree.{Expr, flag, path, negation, Stmt, Stmts, MaybeStmt, nothing, block, var, assign, choice, return_, exit_, call, done, next, without, otherwise}
use Rattle.p4_meaning.specs.Statements.{Act, makes, drops, reads, writes, tells, sums, runs, applies, idle, act_of, application}

-- where statements stand
pub data Body : Type 0 where
  in_action : Body
  in_control : Body

-- the names of the flags: the control is at its end, and the action is
pub record Flags : Type 0 where
  pub left : List ℕ
  pub returned : List ℕ

-- the flag that a guard tests
abbrev pub flag_of : Flags → Body → List ℕ
flag_of n in_action = n.returned
flag_of n in_control = n.left

-- a flag is set
abbrev pub raised : List ℕ → Stmt
raised x = assign 0 (x ∷ []) (flag 0 true)

-- a statement that is run where the flag is not set
abbrev pub guarded : List ℕ → Stmt → Stmt
guarded x s = choice 0 (negation 0 (path 0 (x ∷ []))) s without

-- what stands in place of `exit`
abbrev pub exit_in : Flags → Body → Stmt
exit_in n in_action = block 0 (next (raised n.left) (next (raised n.returned) done))
exit_in n in_control = raised n.left

-- which actions may exit, and which tables may run such an action
pub record Exits : Type 0 where
  pub action : List ℕ → Bool
  pub table : List ℕ → Bool

-- in an action nothing is called
abbrev pub no_exits : Exits
no_exits = record { action = λ x. false; table = λ t. false }

module _ (m : Exits) where
  abbrev pub table_leaves : Option (List ℕ × Bool) → Bool
  table_leaves None = false
  table_leaves (Some t) = m.table t.0

  abbrev pub test_leaves : Expr → Bool
  test_leaves e = table_leaves (application e)

  abbrev pub call_leaves : Act → Bool
  call_leaves (makes h b) = false
  call_leaves drops = false
  call_leaves (reads x t i) = false
  call_leaves (writes x i v) = false
  call_leaves (tells r es) = false
  call_leaves (sums b c es f) = false
  call_leaves (runs x es) = m.action x
  call_leaves (applies t) = m.table t
  call_leaves idle = false

  abbrev mutual
    -- whether a statement may return or exit
    pub stmt_leaves : Stmt → Bool
    stmt_leaves (nothing p) = false
    stmt_leaves (block p ss) = stmts_leave ss
    stmt_leaves (var p ty x e) = false
    stmt_leaves (assign p target e) = false
    stmt_leaves (choice p e s t) = test_leaves e || (stmt_leaves s || else_leaves t)
    stmt_leaves (return_ p) = true
    stmt_leaves (exit_ p) = true
    stmt_leaves (call p callee args) = call_leaves (act_of callee args)

    pub else_leaves : MaybeStmt → Bool
    else_leaves without = false
    else_leaves (otherwise s) = stmt_leaves s

    pub stmts_leave : Stmts → Bool
    stmts_leave done = false
    stmts_leave (next s ss) = stmt_leaves s || stmts_leave ss

abbrev pub is_var : Stmt → Bool
is_var (nothing p) = false
is_var (block p ss) = false
is_var (var p ty x e) = true
is_var (assign p target e) = false
is_var (choice p e s t) = false
is_var (return_ p) = false
is_var (exit_ p) = false
is_var (call p callee args) = false

module _ (n : Flags) (m : Exits) (body : Body) where
  -- a statement of a list, where one before it may have left
  abbrev pub in_list : (left is_declaration : Bool) → Stmt → Stmt
  in_list true false s = guarded (flag_of n body) s
  in_list true true s = s
  in_list false b s = s

  -- a branch, where the test may have left. The block keeps an `else` from going to the guard
  abbrev pub in_branch : (left : Bool) → Stmt → Stmt
  in_branch true s = block 0 (next (guarded (flag_of n body) s) done)
  in_branch false s = s

  abbrev mutual
    pub stmt_without : Stmt → Stmt
    stmt_without (nothing p) = nothing p
    stmt_without (block p ss) = block p (stmts_without false ss)
    stmt_without (var p ty x e) = var p ty x e
    stmt_without (assign p target e) = assign p target e
    stmt_without (choice p e s t) = choice p e (in_branch (test_leaves m e) (stmt_without s)) (else_without (test_leaves m e) t)
    stmt_without (return_ p) = raised (flag_of n body)
    stmt_without (exit_ p) = exit_in n body
    stmt_without (call p callee args) = call p callee args

    pub else_without : Bool → MaybeStmt → MaybeStmt
    else_without left without = without
    else_without left (otherwise s) = otherwise (in_branch left (stmt_without s))

    pub stmts_without : Bool → Stmts → Stmts
    stmts_without left done = done
    stmts_without left (next s ss) = next (in_list left (is_var s) (stmt_without s)) (stmts_without (left || stmt_leaves m s) ss)
