-- What the tests of reports say.
use Rattle.std.proofs.Common.{◌≡◌, ◌↔◌, IsTrue, Bool, true, false, ◌&&◌, leb-true, le-leb, refl}
use Rattle.indus_tree.specs.Tree.{exprs_count, Stmt, Stmts, assign, cell, push, choice, loop, reject, report, done, next, Property}
use Rattle.indus_tree.specs.Reports.{HasShortReports, IsShort, AreShort}
use Rattle.indus_run.specs.Reports.{all_short, is_short, are_short}

both : (a b : Bool) → (a && b) ≡ true → (a ≡ true) × (b ≡ true)
both true b h = (refl, h)
both false b h = absurd (let c : false ≡ true = h in cc)

also : (a b : Bool) → a ≡ true → b ≡ true → (a && b) ≡ true
also true b h k = k
also false b h k = absurd (let c : false ≡ true = h in cc)

mutual
  pub stmt_short : (s : Stmt) → is_short s ≡ true → IsShort s
  stmt_short (assign p x e) h = tt
  stmt_short (cell p x i e) h = tt
  stmt_short (push p x e) h = tt
  stmt_short (choice p e a b) h = (block_short a (both (are_short a) (are_short b) h).0, block_short b (both (are_short a) (are_short b) h).1)
  stmt_short (loop p xs ls a) h = block_short a h
  stmt_short (reject p) h = tt
  stmt_short (report p n es) h = leb-true (exprs_count es) 8 h

  pub block_short : (ss : Stmts) → are_short ss ≡ true → AreShort ss
  block_short done h = tt
  block_short (next s ss) h = (stmt_short s (both (is_short s) (are_short ss) h).0, block_short ss (both (is_short s) (are_short ss) h).1)

mutual
  pub short_stmt : (s : Stmt) → IsShort s → is_short s ≡ true
  short_stmt (assign p x e) h = refl
  short_stmt (cell p x i e) h = refl
  short_stmt (push p x e) h = refl
  short_stmt (choice p e a b) h = also (are_short a) (are_short b) (short_block a h.0) (short_block b h.1)
  short_stmt (loop p xs ls a) h = short_block a h
  short_stmt (reject p) h = refl
  short_stmt (report p n es) h = le-leb (exprs_count es) 8 h

  pub short_block : (ss : Stmts) → AreShort ss → are_short ss ≡ true
  short_block done h = refl
  short_block (next s ss) h = also (is_short s) (are_short ss) (short_stmt s h.0) (short_block ss h.1)

property_short : (p : Property) → all_short p ≡ true → HasShortReports p
property_short p h =
    let rest : (are_short p.tele && are_short p.check) ≡ true = (both (are_short p.init) (are_short p.tele && are_short p.check) h).1 in
    record { init = block_short p.init (both (are_short p.init) (are_short p.tele && are_short p.check) h).0; tele = block_short p.tele (both (are_short p.tele) (are_short p.check) rest).0; check = block_short p.check (both (are_short p.tele) (are_short p.check) rest).1 }

pub short_property : (p : Property) → IsTrue (all_short p) ↔ HasShortReports p
short_property p =
    (λ h. property_short p h, λ r. also (are_short p.init) (are_short p.tele && are_short p.check) (short_block p.init r.init) (also (are_short p.tele) (are_short p.check) (short_block p.tele r.tele) (short_block p.check r.check)))
