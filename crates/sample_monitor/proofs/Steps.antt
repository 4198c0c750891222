-- Statements one by one: what holds of a run before a statement gives what holds behind it.
use Rattle.std.proofs.Common.{◌≡◌, ℕ, List, [], ◌∷◌, ◌++◌, Bool, true, false, not, cond, None, refl, sym, ap, ◌∙◌, subst, append-nil}
use Rattle.std.specs.Prelude.{if◌then◌else◌}
use Rattle.std.specs.List.{filter}
use Rattle.std.proofs.lemmas.List.Elements.{filter-append}
use Rattle.bit_values.specs.Bits.{Word}
use Rattle.bit_values.specs.Widths.{bit, holds}
use Rattle.p4_tree.specs.Tree.{Expr, Stmt, Stmts, MaybeStmt, choice, done, next}
use Rattle.p4_meaning.specs.Store.{set_value}
use Rattle.p4_meaning.specs.Value.{value_of}
use Rattle.p4_meaning.specs.Statements.{Flow, Go, Digest, Run, Ended, after, in_store, put_cells, Calls, application, tested_by, meaning_of_stmt, meaning_of_else, meaning_of}
use Rattle.linkage.specs.Linkage.{report_receiver}
use Rattle.own_code.specs.Relations.{is_report}
use Rattle.own_code.proofs.Apart.{apart_names}
use Rattle.monitor_laws.specs.Names.{is_lowered, is_sensor}
use Rattle.monitor_laws.specs.MonitorLaws.{Others}
use Rattle.monitor_laws.proofs.Frames.{others_then, others_set}

-- ---- what lowered statements leave alone

-- a path is set
pub others_path : (a q : Run) (p : List (List ℕ)) (w : Word) → is_lowered p ≡ true → Others a q → Others a (in_store q (set_value q.store p w))
others_path a q p w i o = others_then a q (in_store q (set_value q.store p w)) o (others_set q p w i)

-- the cells of a sensor's register change
pub others_cells : (a q : Run) (x : List ℕ) (ws : List Word) → is_sensor x ≡ true → Others a q → Others a (record q { cells = put_cells q.cells x ws })
others_cells a q x ws i o =
    others_then a q (record q { cells = put_cells q.cells x ws }) o
    (record { values = λ y out. refl; headers = refl; cells = λ y out. ap (λ b. cond b ws (q.cells y)) (apart_names is_sensor x y i out); digests = refl })

-- the digest of a report
abbrev pub report_of : List Word → Digest
report_of ws = record { receiver = report_receiver; values = ws }

-- a report is told
pub others_told : (a q : Run) (ws : List Word) → Others a q → Others a (record q { digests = q.digests ++ report_of ws ∷ [] })
others_told a q ws o =
    others_then a q (record q { digests = q.digests ++ report_of ws ∷ [] }) o
    (record {
      values = λ y out. refl;
      headers = refl;
      cells = λ y out. refl;
      digests = filter-append (λ d. not (is_report d)) q.digests (report_of ws ∷ []) ∙ append-nil (filter (λ d. not (is_report d)) q.digests);
    })

-- ---- statements in order

-- statements went on, and this holds of the run behind them
pub record Ends (R : Run → Type 0) (e : Ended) : Type 0 where
  pub run : R e.0
  pub goes : e.1 ≡ Go

pub ends_with : (R : Run → Type 0) (e f : Ended) → e ≡ f → Ends R f → Ends R e
ends_with R e f is h = subst (Ends R) (sym is) h

pub ends_then : (S R : Run → Type 0) (e : Ended) (k : Run → Ended) → Ends S e → ((q : Run) → S q → Ends R (k q)) → Ends R (after e.1 e.0 k)
ends_then S R e k h more = subst (λ (f : Flow). Ends R (after f e.0 k)) (sym h.goes) (more e.0 h.run)

module _ (calls : Calls) where
  -- one statement and then others
  pub step : (S R : Run → Type 0) (s : Stmt) (ss : Stmts) (q : Run) → Ends S (meaning_of_stmt calls s q) → ((p : Run) → S p → Ends R (meaning_of calls ss p)) → Ends R (meaning_of calls (next s ss) q)
  step S R s ss q h more = ends_then S R (meaning_of_stmt calls s q) (meaning_of calls ss) h more

  pub nothing_more : (R : Run → Type 0) (q : Run) → R q → Ends R (meaning_of calls done q)
  nothing_more R q h = record { run = h; goes = refl }

  -- an `if` whose test has this truth value
  by_bit : (R : Run → Type 0) (s : Stmt) (m : MaybeStmt) (q : Run) (b : Bool) → (b ≡ true → Ends R (meaning_of_stmt calls s q)) → (b ≡ false → Ends R (meaning_of_else calls m q)) → Ends R (if holds (bit b) then meaning_of_stmt calls s q else meaning_of_else calls m q)
  by_bit R s m q true x y = x refl
  by_bit R s m q false x y = y refl

  pub chosen : (R : Run → Type 0) (at : ℕ) (e : Expr) (s : Stmt) (m : MaybeStmt) (q : Run) (b : Bool) → application e ≡ None → value_of e 1 q.store ≡ bit b → (b ≡ true → Ends R (meaning_of_stmt calls s q)) → (b ≡ false → Ends R (meaning_of_else calls m q)) → Ends R (meaning_of_stmt calls (choice at e s m) q)
  chosen R at e s m q b plain v x y =
      subst (λ o. Ends R (after (tested_by calls o e q).flow (tested_by calls o e q).run (λ p. if (tested_by calls o e q).hit then meaning_of_stmt calls s p else meaning_of_else calls m p))) (sym plain)
      (subst (λ w. Ends R (if holds w then meaning_of_stmt calls s q else meaning_of_else calls m q)) (sym v) (by_bit R s m q b x y))
