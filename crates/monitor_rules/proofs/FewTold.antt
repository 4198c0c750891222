-- A property tells no more than it weighs.
use Rattle.std.proofs.Common.{ℕ, ◌+◌, ◌≤◌, arith}
use Rattle.indus_tree.specs.Tree.{Stmt, Stmts, assign, cell, push, choice, loop, reject, report, done, next}
use Rattle.flat_laws.specs.Sizes.{stmt_reports, block_reports}
use Rattle.flat_laws.proofs.SizeLemmas.{reports_are_bounded}
use Rattle.whole_properties.specs.Whole.{init, tele, check}
use Rattle.monitor_rules.specs.Told.{told_by, told_in, told_before, TreesTellFew}

mutual
  by_few : (c : Stmt) → told_by c ≤ stmt_reports c
  by_few (assign p x e) = omega arith
  by_few (cell p x i e) = omega arith
  by_few (push p x e) = omega arith
  by_few (choice p t a b) = let x = in_few a in let y = in_few b in omega (arith, x, y)
  by_few (loop p xs ls a) = omega arith
  by_few (reject p) = omega arith
  by_few (report p n es) = omega arith

  in_few : (ss : Stmts) → told_in ss ≤ block_reports ss
  in_few done = omega arith
  in_few (next c ss) = let x = by_few c in let y = in_few ss in omega (arith, x, y)

before_few : (ss : Stmts) (k : ℕ) → told_before ss k ≤ block_reports ss + k
before_few done k = omega arith
before_few (next c ss) k = let x = by_few c in let y = before_few ss k in omega (arith, x, y)

pub tell_few : TreesTellFew
tell_few g =
    let p = g.property in
    let a = in_few (init g) in
    let b = before_few (tele g) (told_in (check g)) in
    let c = in_few (check g) in
    let x = reports_are_bounded p.decls p.init in
    let y = reports_are_bounded p.decls p.tele in
    let z = reports_are_bounded p.decls p.check in
    omega (arith, a, b, c, x, y, z)
