-- How high trees are: the nodes on the longest way from the top down. The nodes are the property, its
-- declarations, statements and expressions.
use Rattle.std.specs.Prelude.{ℕ, ◌+◌, max, List, [], ◌∷◌, Option, Some, None}
use Rattle.indus_tree.specs.Tree.{Expr, Exprs, num, flag, read, count, index, member, negation, inversion, binary, cast, none, more, Stmt, Stmts, assign, cell, push, choice, loop, reject, report, done, next, Decl, Property}

abbrev mutual
  -- a node with no node below it has height 1
  pub expr_height : Expr → ℕ
  expr_height (num p n) = 1
  expr_height (flag p b) = 1
  expr_height (read p x) = 1
  expr_height (count p x) = 1
  expr_height (index p x es) = exprs_height es + 1
  expr_height (member p es x) = exprs_height es + 1
  expr_height (negation p a) = expr_height a + 1
  expr_height (inversion p a) = expr_height a + 1
  expr_height (binary p op a b) = max (expr_height a) (expr_height b) + 1
  expr_height (cast p w a) = expr_height a + 1

  -- the greatest height of some expressions
  pub exprs_height : Exprs → ℕ
  exprs_height none = 0
  exprs_height (more e es) = max (expr_height e) (exprs_height es)

abbrev mutual
  -- the height of a statement
  pub stmt_height : Stmt → ℕ
  stmt_height (assign p x e) = expr_height e + 1
  stmt_height (cell p x i e) = max (expr_height i) (expr_height e) + 1
  stmt_height (push p x e) = expr_height e + 1
  stmt_height (choice p e a b) = max (expr_height e) (max (block_height a) (block_height b)) + 1
  stmt_height (loop p xs ls a) = block_height a + 1
  stmt_height (reject p) = 1
  stmt_height (report p n es) = exprs_height es + 1

  -- the greatest height of a block's statements
  pub block_height : Stmts → ℕ
  block_height done = 0
  block_height (next s ss) = max (stmt_height s) (block_height ss)

-- the height of an initial value, where there is one
abbrev pub start_height : Option Expr → ℕ
start_height None = 0
start_height (Some e) = expr_height e

-- the height of a declaration
abbrev pub decl_height : Decl → ℕ
decl_height d = start_height d.start + 1

-- the greatest height of some declarations
abbrev pub decls_height : List Decl → ℕ
decls_height [] = 0
decls_height (d ∷ ds) = max (decl_height d) (decls_height ds)

-- the height of a property
abbrev pub height : Property → ℕ
height p = max (decls_height p.decls) (max (block_height p.init) (max (block_height p.tele) (block_height p.check))) + 1
