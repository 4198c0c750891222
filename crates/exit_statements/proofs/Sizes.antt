-- Statements without exits are at most five times as many, and at most three times as high, and one.
use Rattle.std.proofs.Common.{ℕ, ◌+◌, ◌*◌, ◌≤◌, Bool, true, false, ◌||◌, arith}
use Rattle.p4_tree.specs.Tree.{Stmt, Stmts, MaybeStmt, nothing, block, var, assign, choice, return_, exit_, call, done, next, without, otherwise}
use Rattle.p4_tree.specs.Height.{stmt_height, else_height, stmts_height}
use Rattle.exit_statements.specs.Without.{Body, in_action, in_control, Flags, exit_in, Exits, test_leaves, stmt_leaves, is_var, in_list, in_branch, stmt_without, else_without, stmts_without}
use Rattle.exit_statements.specs.Bounds.{size, size_else, sizes, SizesBounded, HeightsBounded}

module _ (n : Flags) (m : Exits) (body : Body) where
  exit_size : (body : Body) → size (exit_in n body) + 2 ≤ 5
  exit_size in_action = omega arith
  exit_size in_control = omega arith

  list_size : (l v : Bool) (s : Stmt) → size (in_list n m body l v s) ≤ size s + 1
  list_size false v s = omega arith
  list_size true true s = omega arith
  list_size true false s = omega arith

  branch_size : (l : Bool) (s : Stmt) → size (in_branch n m body l s) ≤ size s + 2
  branch_size true s = omega arith
  branch_size false s = omega arith

  mutual
    stmt_size : (s : Stmt) → size (stmt_without n m body s) + 2 ≤ 5 * size s
    stmt_size (nothing p) = omega arith
    stmt_size (block p ss) = omega (arith, stmts_size false ss)
    stmt_size (var p ty x e) = omega arith
    stmt_size (assign p target e) = omega arith
    stmt_size (choice p e s t) = omega (arith, stmt_size s, branch_size (test_leaves m e) (stmt_without n m body s), else_size (test_leaves m e) t)
    stmt_size (return_ p) = omega arith
    stmt_size (exit_ p) = omega (arith, exit_size body)
    stmt_size (call p callee args) = omega arith

    else_size : (l : Bool) (s : MaybeStmt) → size_else (else_without n m body l s) ≤ 5 * size_else s
    else_size l without = omega arith
    else_size l (otherwise s) = omega (arith, stmt_size s, branch_size l (stmt_without n m body s))

    stmts_size : (l : Bool) (ss : Stmts) → sizes (stmts_without n m body l ss) ≤ 5 * sizes ss
    stmts_size l done = omega arith
    stmts_size l (next s ss) = omega (arith, stmt_size s, list_size l (is_var s) (stmt_without n m body s), stmts_size (l || stmt_leaves m s) ss)

  exit_height : (body : Body) → stmt_height (exit_in n body) ≤ 3
  exit_height in_action = omega arith
  exit_height in_control = omega arith

  -- a guard has a test of height 2
  list_height : (l v : Bool) (s : Stmt) (h : ℕ) → 2 ≤ h → stmt_height s ≤ h → stmt_height (in_list n m body l v s) ≤ h + 1
  list_height false v s h two most = omega (arith, most)
  list_height true true s h two most = omega (arith, most)
  list_height true false s h two most = omega (arith, two, most)

  branch_height : (l : Bool) (s : Stmt) (h : ℕ) → 2 ≤ h → stmt_height s ≤ h → stmt_height (in_branch n m body l s) ≤ h + 2
  branch_height true s h two most = omega (arith, two, most)
  branch_height false s h two most = omega (arith, most)

  -- a statement has height 1 at least
  three : (s : Stmt) → 2 ≤ 3 * stmt_height s
  three (nothing p) = omega arith
  three (block p ss) = omega arith
  three (var p ty x e) = omega arith
  three (assign p target e) = omega arith
  three (choice p e s t) = omega arith
  three (return_ p) = omega arith
  three (exit_ p) = omega arith
  three (call p callee args) = omega arith

  mutual
    high : (s : Stmt) → stmt_height (stmt_without n m body s) ≤ 3 * stmt_height s
    high (nothing p) = omega arith
    high (block p ss) = omega (arith, highs false ss)
    high (var p ty x e) = omega arith
    high (assign p target e) = omega arith
    high (choice p e s t) = omega (arith, branch_height (test_leaves m e) (stmt_without n m body s) (3 * stmt_height s) (three s) (high s), else_high (test_leaves m e) t)
    high (return_ p) = omega arith
    high (exit_ p) = exit_height body
    high (call p callee args) = omega arith

    else_high : (l : Bool) (s : MaybeStmt) → else_height (else_without n m body l s) ≤ 3 * else_height s + 2
    else_high l without = omega arith
    else_high l (otherwise s) = branch_height l (stmt_without n m body s) (3 * stmt_height s) (three s) (high s)

    highs : (l : Bool) (ss : Stmts) → stmts_height (stmts_without n m body l ss) ≤ 3 * stmts_height ss + 1
    highs l done = omega arith
    highs l (next s ss) = omega (arith, list_height l (is_var s) (stmt_without n m body s) (3 * stmt_height s) (three s) (high s), highs (l || stmt_leaves m s) ss)

pub sizes_bounded : SizesBounded
sizes_bounded n m body left ss = stmts_size n m body left ss

pub heights_bounded : HeightsBounded
heights_bounded n m body left ss = highs n m body left ss
