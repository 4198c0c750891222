-- How large, how high and how talkative flat code is, by the code from which it comes. Read `Height` of `indus_tree`, `Sums` of
-- `indus_types` and `Flat` of `lower_lists` before it.
use Rattle.std.specs.Prelude.{ℕ, ◌+◌, ◌*◌, ◌^◌, ◌≤◌, max, List, length, if◌then◌else◌}
use Rattle.indus_tree.specs.Tree.{Expr, Exprs, num, flag, read, count, index, member, negation, inversion, binary, cast, none, more, Stmt, Stmts, assign, cell, push, choice, loop, reject, report, done, next, block_from, Decl, Property}
use Rattle.indus_tree.specs.Height.{block_height}
use Rattle.indus_types.specs.Sums.{is_list, block_weight}
use Rattle.indus_rules.specs.Rules.{IsWellTyped}
use Rattle.lower_lists.specs.Flat.{flat_of}

-- ---- the nodes of a tree

abbrev mutual
  pub expr_size : Expr → ℕ
  expr_size (num p n) = 1
  expr_size (flag p b) = 1
  expr_size (read p x) = 1
  expr_size (count p x) = 1
  expr_size (index p x ks) = exprs_size ks + 1
  expr_size (member p ks x) = exprs_size ks + 1
  expr_size (negation p a) = expr_size a + 1
  expr_size (inversion p a) = expr_size a + 1
  expr_size (binary p op a b) = expr_size a + expr_size b + 1
  expr_size (cast p w a) = expr_size a + 1

  pub exprs_size : Exprs → ℕ
  exprs_size none = 0
  exprs_size (more e es) = expr_size e + exprs_size es

abbrev mutual
  pub stmt_size : Stmt → ℕ
  stmt_size (assign p x e) = expr_size e + 1
  stmt_size (cell p x i e) = expr_size i + expr_size e + 1
  stmt_size (push p x e) = expr_size e + 1
  stmt_size (choice p t a b) = expr_size t + block_size a + block_size b + 1
  stmt_size (loop p xs ls a) = block_size a + 1
  stmt_size (reject p) = 1
  stmt_size (report p n es) = exprs_size es + 1

  pub block_size : Stmts → ℕ
  block_size done = 0
  block_size (next s ss) = stmt_size s + block_size ss

-- ---- how many lists one loop walks, at most

abbrev mutual
  pub stmt_lists : Stmt → ℕ
  stmt_lists (assign p x e) = 0
  stmt_lists (cell p x i e) = 0
  stmt_lists (push p x e) = 0
  stmt_lists (choice p t a b) = max (block_lists a) (block_lists b)
  stmt_lists (loop p xs ls a) = max (length ls) (block_lists a)
  stmt_lists (reject p) = 0
  stmt_lists (report p n es) = 0

  pub block_lists : Stmts → ℕ
  block_lists done = 0
  block_lists (next s ss) = max (stmt_lists s) (block_lists ss)

-- the flat code of a block, also of one that breaks a rule of types, has at most so many nodes for each unit of the block's
-- weight: a turn tests each list that its loop walks, and they don't count in the weight
abbrev pub SizesAreBounded : Type 0
SizesAreBounded = (ds : List Decl) (ss : Stmts) → block_size (block_from (flat_of ds ss)) ≤ (4 * block_lists ss + 8) * block_weight ds ss

-- ---- reports

abbrev mutual
  pub stmt_reports : Stmt → ℕ
  stmt_reports (assign p x e) = 0
  stmt_reports (cell p x i e) = 0
  stmt_reports (push p x e) = 0
  stmt_reports (choice p t a b) = block_reports a + block_reports b
  stmt_reports (loop p xs ls a) = block_reports a
  stmt_reports (reject p) = 0
  stmt_reports (report p n es) = 1

  pub block_reports : Stmts → ℕ
  block_reports done = 0
  block_reports (next s ss) = stmt_reports s + block_reports ss

-- it has no more reports than the block's weight
abbrev pub ReportsAreBounded : Type 0
ReportsAreBounded = (ds : List Decl) (ss : Stmts) → block_reports (block_from (flat_of ds ss)) ≤ block_weight ds ss

-- ---- heights

-- how many memberships in lists stand in one another, at most
module _ (ds : List Decl) where
  abbrev mutual
    pub expr_depth : Expr → ℕ
    expr_depth (num p n) = 0
    expr_depth (flag p b) = 0
    expr_depth (read p x) = 0
    expr_depth (count p x) = 0
    expr_depth (index p x ks) = exprs_depth ks
    expr_depth (member p ks x) = if is_list ds x then exprs_depth ks + 1 else exprs_depth ks
    expr_depth (negation p a) = expr_depth a
    expr_depth (inversion p a) = expr_depth a
    expr_depth (binary p op a b) = max (expr_depth a) (expr_depth b)
    expr_depth (cast p w a) = expr_depth a

    pub exprs_depth : Exprs → ℕ
    exprs_depth none = 0
    exprs_depth (more e es) = max (expr_depth e) (exprs_depth es)

  abbrev mutual
    pub stmt_depth : Stmt → ℕ
    stmt_depth (assign p x e) = expr_depth e
    stmt_depth (cell p x i e) = max (expr_depth i) (expr_depth e)
    stmt_depth (push p x e) = expr_depth e
    stmt_depth (choice p t a b) = max (expr_depth t) (max (block_depth a) (block_depth b))
    stmt_depth (loop p xs ls a) = block_depth a
    stmt_depth (reject p) = 0
    stmt_depth (report p n es) = exprs_depth es

    pub block_depth : Stmts → ℕ
    block_depth done = 0
    block_depth (next s ss) = max (stmt_depth s) (block_depth ss)

-- the flat code of a block of a well-typed property is little higher than the block: by 9 for each membership that stands in
-- another, by the halvings of the most lists of a loop, and by 3
abbrev pub HeightsAreBounded : Type 0
HeightsAreBounded =
    (p : Property) → IsWellTyped p → (ss : Stmts) (halvings : ℕ) → block_lists ss ≤ 2 ^ halvings
    → block_height (block_from (flat_of p.decls ss)) ≤ block_height ss + 9 * block_depth p.decls ss + halvings + 3
