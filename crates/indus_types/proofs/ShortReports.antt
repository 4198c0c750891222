-- The reports of a well-typed property are short, by induction on its statements.
use Rattle.std.proofs.lemmas.Bool.{ltb-false}
use Rattle.indus_tree.specs.Tree.{exprs_count, Stmt, Stmts, assign, cell, push, choice, loop, reject, report, done, next}
use Rattle.indus_scopes.specs.Scopes.{Sight}
use Rattle.indus_rules.specs.Sites.{stmt_sites, block_sites, sight}
use Rattle.indus_scopes.specs.Items.{within}
use Rattle.indus_rules.specs.Rules.{Fine}
use Rattle.indus_rules.specs.declared.rule.Rule.TheVariants.{BadSize}
use Rattle.indus_scopes.specs.declared.scope.Block.TheVariants as block
use Rattle.indus_tree.specs.Reports.{IsShort, AreShort}
use Rattle.indus_types.specs.Facts.{ReportsAreShort}
use Rattle.indus_types.proofs.Checked.{each_fine}

mutual
  stmt_short : (c : Stmt) (g : Sight) → Fine (stmt_sites g c) → IsShort c
  stmt_short (assign p x e) g f = tt
  stmt_short (cell p x i e) g f = tt
  stmt_short (push p x e) g f = tt
  stmt_short (choice p t a b) g f = (block_short a g f.1.1.0, block_short b g f.1.1.1)
  stmt_short (loop p ns ls a) g f = block_short a (within g ns ls) f.1
  stmt_short (reject p) g f = tt
  stmt_short (report p n es) g f = ltb-false 8 (exprs_count es) (f.0 BadSize)

  block_short : (cs : Stmts) (g : Sight) → Fine (block_sites g cs) → AreShort cs
  block_short done g f = tt
  block_short (next c rest) g f = (stmt_short c g f.0, block_short rest g f.1)

pub reports_short : ReportsAreShort
reports_short p h =
    let f = each_fine p h in
    record { init = block_short p.init (sight p block.Init) f.1.1.0; tele = block_short p.tele (sight p block.Tele) f.1.1.1.0; check = block_short p.check (sight p block.Check) f.1.1.1.1 }
