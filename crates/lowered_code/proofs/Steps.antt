-- Statements in order, and assignments to variables.
use Rattle.std.proofs.Common.{◌≡◌, ℕ, List, [], ◌∷◌, Bool, true, false, cond, None, refl, sym, ap, ◌∙◌, subst}
use Rattle.bit_values.specs.Bits.{Word}
use Rattle.bit_values.specs.Widths.{bit, holds, sound_width, cast_word}
use Rattle.p4_tree.specs.Tree as p4
use Rattle.p4_tree.specs.Tree.{Stmt, Stmts, done, next, and_then}
use Rattle.p4_meaning.specs.Store.{set_value}
use Rattle.p4_meaning.specs.Value as p4v
use Rattle.p4_meaning.specs.Statements.{Flow, Go, Run, Ended, after, in_store, Calls, meaning_of_stmt, meaning_of}
use Rattle.p4_meaning.proofs.Sequences.{then_runs}
use Rattle.monitor_laws.specs.Trees.{only_if}
use Rattle.monitor_laws.proofs.Frames.{open_by, assignment}
use Rattle.lowered_code.specs.Standing.{Ends}

-- ---- statements in order

pub ends_with : (R : Run → Type 0) (e f : Ended) → e ≡ f → Ends R f → Ends R e
ends_with R e f is h = subst (Ends R) (sym is) h

pub ends_then : (S R : Run → Type 0) (e : Ended) (k : Run → Ended) → Ends S e → ((q : Run) → S q → Ends R (k q)) → Ends R (after e.1 e.0 k)
ends_then S R e k h go_on = subst (λ (f : Flow). Ends R (after f e.0 k)) (sym h.goes) (go_on e.0 h.run)

pub ends_some : (S R : Run → Type 0) (e : Ended) → ((q : Run) → S q → R q) → Ends S e → Ends R e
ends_some S R e f h = record { run = f e.0 h.run; goes = h.goes }

module _ (calls : Calls) where
  pub nothing_more : (R : Run → Type 0) (q : Run) → R q → Ends R (meaning_of calls done q)
  nothing_more R q h = record { run = h; goes = refl }

  -- a statement and then others
  pub step : (S R : Run → Type 0) (s : Stmt) (ss : Stmts) (q : Run) → Ends S (meaning_of_stmt calls s q) → ((p : Run) → S p → Ends R (meaning_of calls ss p)) → Ends R (meaning_of calls (next s ss) q)
  step S R s ss q h go_on = ends_then S R (meaning_of_stmt calls s q) (meaning_of calls ss) h go_on

  -- one statement alone
  pub alone : (R : Run → Type 0) (s : Stmt) (q : Run) → Ends R (meaning_of_stmt calls s q) → Ends R (meaning_of calls (next s done) q)
  alone R s q h = step R R s done q h (λ p i. nothing_more R p i)

  -- statements and then others
  pub steps : (S R : Run → Type 0) (x y : Stmts) (q : Run) → Ends S (meaning_of calls x q) → ((p : Run) → S p → Ends R (meaning_of calls y p)) → Ends R (meaning_of calls (and_then x y) q)
  steps S R x y q h go_on = ends_with R _ _ (then_runs calls x y q) (ends_then S R (meaning_of calls x q) (meaning_of calls y) h go_on)

  -- ---- a variable takes a value

  abbrev pub value_in : Run → List ℕ → p4.Expr → Word
  value_in q x e = cast_word (sound_width (q.store.values (x ∷ [])).width) (p4v.value_of e (q.store.values (x ∷ [])).width q.store)

  abbrev pub run_with : Run → List ℕ → p4.Expr → Run
  run_with q x e = in_store q (set_value q.store (x ∷ []) (value_in q x e))

  pub sets : (R : Run → Type 0) (q : Run) (x : List ℕ) (e : p4.Expr) → q.store.headers [] ≡ None → R (run_with q x e) → Ends R (meaning_of_stmt calls (p4.assign 0 (x ∷ []) e) q)
  sets R q x e plain h =
      ends_with R _ _
      (assignment calls q 0 (x ∷ []) e (q.store.values (x ∷ [])) (p4v.value_of e (q.store.values (x ∷ [])).width q.store) refl (open_by (q.store.headers []) None plain tt) refl refl)
      (record { run = h; goes = refl })

  pub sets_then : (R : Run → Type 0) (q : Run) (x : List ℕ) (e : p4.Expr) (ss : Stmts) → q.store.headers [] ≡ None → Ends R (meaning_of calls ss (run_with q x e)) → Ends R (meaning_of calls (next (p4.assign 0 (x ∷ []) e) ss) q)
  sets_then R q x e ss plain h =
      step (λ r. r ≡ run_with q x e) R (p4.assign 0 (x ∷ []) e) ss q (sets (λ r. r ≡ run_with q x e) q x e plain refl) (λ r is. subst (λ r. Ends R (meaning_of calls ss r)) (sym is) h)

  -- ---- one of two

  pub by_bit : (R : Run → Type 0) (x y : Ended) (b : Bool) → (b ≡ true → Ends R x) → (b ≡ false → Ends R y) → Ends R (cond (holds (bit b)) x y)
  by_bit R x y true f g = f refl
  by_bit R x y false f g = g refl

  -- what is done where a test holds, which applies no table
  pub chosen : (R : Run → Type 0) (e : p4.Expr) (ss : Stmts) (q : Run) (t : Bool) → (p4v.value_of e 1 q.store ≡ bit t) → meaning_of_stmt calls (only_if e ss) q ≡ cond (holds (p4v.value_of e 1 q.store)) (meaning_of calls ss q) (q, Go)
      → (t ≡ true → Ends R (meaning_of calls ss q)) → (t ≡ false → R q) → Ends R (meaning_of_stmt calls (only_if e ss) q)
  chosen R e ss q t v is x y =
      ends_with R _ _ (is ∙ ap (λ w. cond (holds w) (meaning_of calls ss q) (q, Go)) v) (by_bit R (meaning_of calls ss q) (q, Go) t x (λ e. record { run = y e; goes = refl }))
