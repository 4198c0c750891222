-- Reports of at most eight values, which is a rule of types, and reports whose numbers are below a bound.
use Rattle.std.specs.Prelude.{◌≤◌, ◌<◌, ℕ}
use Rattle.indus_tree.specs.Tree.{exprs_count, Stmt, Stmts, assign, cell, push, choice, loop, reject, report, done, next, Property}

abbrev mutual
  -- no report in a statement has more values
  pub IsShort : Stmt → Type 0
  IsShort (assign p x e) = Unit {0}
  IsShort (cell p x i e) = Unit {0}
  IsShort (push p x e) = Unit {0}
  IsShort (choice p e a b) = AreShort a × AreShort b
  IsShort (loop p xs ls a) = AreShort a
  IsShort (reject p) = Unit {0}
  IsShort (report p n es) = exprs_count es ≤ 8

  -- no report in a block has more values
  pub AreShort : Stmts → Type 0
  AreShort done = Unit {0}
  AreShort (next s ss) = IsShort s × AreShort ss

-- no report of a property has more values
pub record HasShortReports (p : Property) : Type 0 where
  pub init : AreShort p.init
  pub tele : AreShort p.tele
  pub check : AreShort p.check

abbrev mutual
  -- each report in a statement has a number below the bound
  pub ReportsBelow : (bound : ℕ) → Stmt → Type 0
  ReportsBelow bound (assign p x e) = Unit {0}
  ReportsBelow bound (cell p x i e) = Unit {0}
  ReportsBelow bound (push p x e) = Unit {0}
  ReportsBelow bound (choice p e a b) = BlockReportsBelow bound a × BlockReportsBelow bound b
  ReportsBelow bound (loop p xs ls a) = BlockReportsBelow bound a
  ReportsBelow bound (reject p) = Unit {0}
  ReportsBelow bound (report p n es) = n < bound

  -- each report in a block has a number below the bound
  pub BlockReportsBelow : (bound : ℕ) → Stmts → Type 0
  BlockReportsBelow bound done = Unit {0}
  BlockReportsBelow bound (next s ss) = ReportsBelow bound s × BlockReportsBelow bound ss

-- each report of a property has a number below the bound
pub record HasReportsBelow (bound : ℕ) (p : Property) : Type 0 where
  pub init : BlockReportsBelow bound p.init
  pub tele : BlockReportsBelow bound p.tele
  pub check : BlockReportsBelow bound p.check
