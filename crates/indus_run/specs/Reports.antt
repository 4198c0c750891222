-- Short reports, as tests. Read `Reports` of `indus_tree` before it.
use Rattle.std.specs.Prelude.{Bool, true, ◌&&◌, nat_le}
use Rattle.indus_tree.specs.Tree.{exprs_count, Stmt, Stmts, assign, cell, push, choice, loop, reject, report, done, next, Property}

abbrev mutual
  pub is_short : Stmt → Bool
  is_short (assign p x e) = true
  is_short (cell p x i e) = true
  is_short (push p x e) = true
  is_short (choice p e a b) = are_short a && are_short b
  is_short (loop p xs ls a) = are_short a
  is_short (reject p) = true
  is_short (report p n es) = nat_le (exprs_count es) 8

  pub are_short : Stmts → Bool
  are_short done = true
  are_short (next s ss) = is_short s && are_short ss

abbrev pub all_short : Property → Bool
all_short p = are_short p.init && (are_short p.tele && are_short p.check)
