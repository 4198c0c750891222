-- Along statements: what holds at each statement to which a run comes, brought together, and what is seen there.
use Rattle.p4_tree.specs.Tree.{Stmt, Stmts, MaybeStmt, nothing, block, var, assign, choice, return_, exit_, call, done, next, without, otherwise}
use Rattle.rule_tests.specs.Tests.{IsFine}
use Rattle.p4_meaning.specs.Store.{Store}
use Rattle.p4_meaning.specs.Statements.{Run, Calls, tested, meaning_of_stmt}
use Rattle.p4_meaning.specs.Scope as meaning
use Rattle.p4_meaning.specs.Under.{expr_under, stmt_under}
use Rattle.p4_meaning.specs.Parts.{Parts}
use Rattle.p4_meaning.specs.Laws.{AreWords}
use Rattle.p4_meaning.proofs.Seen.{value_seen, width_seen}
use Rattle.p4_scopes.specs.Scopes.{Scope}
use Rattle.p4_statement_rules.specs.Statements.{after, stmt_tests, block_tests, else_tests}
use Rattle.p4_statement_rules.specs.declared.rule.Part.{Part}
use Rattle.p4_typing_laws.specs.Soundness.{IsSound}
use Rattle.p4_typing_laws.specs.Tied.{IsTied}
use Rattle.p4_typing_laws.specs.Stores.{Fits}
use Rattle.p4_typing_laws.specs.Along.{AlongStmt, AlongElse, Along}
use Rattle.p4_typing_laws.proofs.SoundPlaces.{after_sound}
use Rattle.p4_typing_laws.proofs.TiedNames.{after_tied}
use Rattle.p4_typing_laws.proofs.RunWidths.{fits_show, runs_at}
use Rattle.passage_stores.specs.FitStores.{IsFit}
use Rattle.passage_stores.specs.SeenStores.{Sees, SeenHasWidth}
use Rattle.passage_stores.proofs.KeptStores.{HavePaths, CallsFit, stmt_fits, test_fits}
use Rattle.passage_stores.proofs.SeenNames.{KnowsNames, after_names, OwnsNone, knows_calls}

-- ---- both hold

module _ (calls : Calls) (P Q : Scope → meaning.Scope → Stmt → Run → Type 0) (sc : meaning.Scope) where
  abbrev Both : Scope → meaning.Scope → Stmt → Run → Type 0
  Both s td c r = P s td c r × Q s td c r

  mutual
    both_stmt : (c : Stmt) (s : Scope) (r : Run) → AlongStmt calls P s sc c r → AlongStmt calls Q s sc c r → AlongStmt calls Both s sc c r
    both_stmt (nothing q) s r h k = (h, k)
    both_stmt (block q b) s r h k = ((h.0, k.0), both_block b s r h.1 k.1)
    both_stmt (var q ty x e) s r h k = (h, k)
    both_stmt (assign q x e) s r h k = (h, k)
    both_stmt (choice q e a b) s r h k = (
      (h.0, k.0),
      λ go hit. both_stmt a s (tested calls (expr_under sc e) r).run (h.1 go hit) (k.1 go hit),
      λ go hit. both_else b s (tested calls (expr_under sc e) r).run (h.2 go hit) (k.2 go hit),
    )
    both_stmt (return_ q) s r h k = (h, k)
    both_stmt (exit_ q) s r h k = (h, k)
    both_stmt (call q x args) s r h k = (h, k)

    both_else : (o : MaybeStmt) (s : Scope) (r : Run) → AlongElse calls P s sc o r → AlongElse calls Q s sc o r → AlongElse calls Both s sc o r
    both_else without s r h k = tt
    both_else (otherwise c) s r h k = both_stmt c s r h k

    pub both_block : (b : Stmts) (s : Scope) (r : Run) → Along calls P s sc b r → Along calls Q s sc b r → Along calls Both s sc b r
    both_block done s r h k = tt
    both_block (next c ss) s r h k = (both_stmt c s r h.0 k.0, λ go. both_block ss (after s c) (meaning_of_stmt calls (stmt_under sc c) r).0 (h.1 go) (k.1 go))

-- ---- the store fits the program

module _ (p : Parts) (paths : HavePaths p.headers) (calls : Calls) (fit : CallsFit calls) (sc : meaning.Scope) where
  abbrev pub GoesOnFit : Scope → meaning.Scope → Stmt → Run → Type 0
  GoesOnFit s td c r = IsFit p r.store

  mutual
    fit_stmt : (c : Stmt) (s : Scope) (r : Run) → IsFit p r.store → AlongStmt calls GoesOnFit s sc c r
    fit_stmt (nothing q) s r h = h
    fit_stmt (block q b) s r h = (h, fit_block b s r h)
    fit_stmt (var q ty x e) s r h = h
    fit_stmt (assign q x e) s r h = h
    fit_stmt (choice q e a b) s r h =
        (let t = tested calls (expr_under sc e) r in
        let k = test_fits p paths calls fit (expr_under sc e) r h in
        (h, λ go hit. fit_stmt a s t.run k, λ go hit. fit_else b s t.run k))
    fit_stmt (return_ q) s r h = h
    fit_stmt (exit_ q) s r h = h
    fit_stmt (call q x args) s r h = h

    fit_else : (o : MaybeStmt) (s : Scope) (r : Run) → IsFit p r.store → AlongElse calls GoesOnFit s sc o r
    fit_else without s r h = tt
    fit_else (otherwise c) s r h = fit_stmt c s r h

    pub fit_block : (b : Stmts) (s : Scope) (r : Run) → IsFit p r.store → Along calls GoesOnFit s sc b r
    fit_block done s r h = tt
    fit_block (next c ss) s r h = (fit_stmt c s r h, λ go. fit_block ss (after s c) (meaning_of_stmt calls (stmt_under sc c) r).0 (stmt_fits p paths calls fit (stmt_under sc c) r h))

-- ---- what is seen

-- what is known of both scopes at a place
pub record IsKnown (p : Parts) (s : Scope) (sc : meaning.Scope) : Type 0 where
  pub tied : IsTied p s sc
  pub sound : IsSound s
  pub names : KnowsNames s
  pub words : AreWords sc
  pub owns : OwnsNone sc

pub seen_of : (p : Parts) (s : Scope) (sc : meaning.Scope) → IsKnown p s sc → (st : Store) → Fits s sc st → Sees p s sc st
seen_of p s sc k st fits = record { tied = k.tied; sound = k.sound; words = k.words; fits = fits; shows = fits_show p s sc k.tied st fits; calls = knows_calls s sc k.names k.owns }

pub seen_has_width : SeenHasWidth
seen_has_width p s sc st sees want most e f = runs_at p s sc sees.tied st sees.fits (λ sd d w u h k. value_seen sd u h k d w) (λ sd d u h k. width_seen sd u h k d) sees.words want most e f

after_known : (p : Parts) (h : Part) (s : Scope) (sc : meaning.Scope) → IsKnown p s sc → (c : Stmt) → IsFine (stmt_tests h s c) → IsKnown p (after s c) sc
after_known p h s sc k c f = record { tied = after_tied p h s sc k.tied c f; sound = after_sound h s k.sound c f; names = after_names h s k.names c f; words = k.words; owns = k.owns }

-- what holds at each statement of statements that break no rule, with what is known of the rules' scope there and stays known
-- behind each statement
module _ (K : Scope → Type 0) (keeps : (h : Part) (s : Scope) → K s → (c : Stmt) → IsFine (stmt_tests h s c) → K (after s c)) (calls : Calls) (sc : meaning.Scope) (P Q : Scope → meaning.Scope → Stmt → Run → Type 0)
    (turn : (s : Scope) (c : Stmt) (r : Run) → K s → P s sc c r → Q s sc c r)
  where
    mutual
      turned_stmt : (c : Stmt) (h : Part) (s : Scope) → K s → IsFine (stmt_tests h s c) → (r : Run) → AlongStmt calls P s sc c r → AlongStmt calls Q s sc c r
      turned_stmt (nothing q) h s k f r w = turn s (nothing q) r k w
      turned_stmt (block q b) h s k f r w = (turn s (block q b) r k w.0, turned_block b h s k f.1 r w.1)
      turned_stmt (var q ty x e) h s k f r w = turn s (var q ty x e) r k w
      turned_stmt (assign q x e) h s k f r w = turn s (assign q x e) r k w
      turned_stmt (choice q e a b) h s k f r w = (
        turn s (choice q e a b) r k w.0,
        λ go hit. turned_stmt a h s k f.1.1.0 (tested calls (expr_under sc e) r).run (w.1 go hit),
        λ go hit. turned_else b h s k f.1.1.1 (tested calls (expr_under sc e) r).run (w.2 go hit),
      )
      turned_stmt (return_ q) h s k f r w = turn s (return_ q) r k w
      turned_stmt (exit_ q) h s k f r w = turn s (exit_ q) r k w
      turned_stmt (call q x args) h s k f r w = turn s (call q x args) r k w

      turned_else : (o : MaybeStmt) (h : Part) (s : Scope) → K s → IsFine (else_tests h s o) → (r : Run) → AlongElse calls P s sc o r → AlongElse calls Q s sc o r
      turned_else without h s k f r w = tt
      turned_else (otherwise c) h s k f r w = turned_stmt c h s k f r w

      pub turned_block : (b : Stmts) (h : Part) (s : Scope) → K s → IsFine (block_tests h s b) → (r : Run) → Along calls P s sc b r → Along calls Q s sc b r
      turned_block done h s k f r w = tt
      turned_block (next c ss) h s k f r w = (
        turned_stmt c h s k f.0 r w.0,
        λ go. turned_block ss h (after s c) (keeps h s k c f.0) f.1 (meaning_of_stmt calls (stmt_under sc c) r).0 (w.1 go),
      )

pub known_block : (p : Parts) (calls : Calls) (sc : meaning.Scope) (P Q : Scope → meaning.Scope → Stmt → Run → Type 0) → ((s : Scope) (c : Stmt) (r : Run) → IsKnown p s sc → P s sc c r → Q s sc c r)
    → (b : Stmts) (h : Part) (s : Scope) → IsKnown p s sc → IsFine (block_tests h s b) → (r : Run) → Along calls P s sc b r → Along calls Q s sc b r
known_block p calls sc P Q turn = turned_block (λ s. IsKnown p s sc) (λ h s k c f. after_known p h s sc k c f) calls sc P Q turn
