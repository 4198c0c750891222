-- Branches, blocks and steps one after the other.
use Rattle.std.proofs.Common.{◌≡◌, ℕ, ◌≤◌, length, List, [], ◌∷◌, ◌++◌, Bool, true, false, not, if◌then◌else◌, Option, Some, None, refl, sym, ap, subst, nat_eq}
use Rattle.bit_values.specs.Bits.{Word}
use Rattle.bit_values.specs.Widths.{holds}
use Rattle.p4_tree.specs.Tree.{Expr, Stmt, Stmts, MaybeStmt, block, choice, otherwise, without, stmts_from}
use Rattle.p4_meaning.specs.Statements as meaning
use Rattle.p4_meaning.specs.Statements.{Flow, Go, Return, Exit, Run, Calls, application, tested_by, meaning_of_stmt, meaning_of_else, meaning_of}
use Rattle.p4_meaning.specs.Value.{value_of}
use Rattle.p4_meaning.specs.Tables.{Table, Tables, table_named, apply_if}
use Rattle.slot_terms.specs.Terms.{constant, eval}
use Rattle.slot_terms.specs.Typed.{Typed, Gives}
use Rattle.slot_terms.specs.Places.{Places, Follows, Means}
use Rattle.slot_statements.specs.Codes as codes
use Rattle.slot_statements.specs.Runs.{Grows}
use Rattle.slot_statements.specs.Tables.{NumberedOutcome}
use Rattle.slot_statements.proofs.FlowLemmas.{follows_before, grows_same, meaning-append}
use Rattle.slot_controls.specs.Steps.{Application, Step, Steps, SlotRun, plain, group, branch, applies, done, steps_from, run_behind, chosen_run, outcome_for, is_asked, run, run_all, run_nth}
use Rattle.slot_controls.specs.Callees.{Callees, AddsVariables, calls_of, table_number}
use Rattle.slot_controls.specs.StepRuns.{Stands, HoldsAlike, StepEnds, DoesStep, DoesStepElse, DoAllSteps, IsApplication, Applies, Widens}
use Rattle.slot_controls.proofs.ActLemmas.{nothing_ends}
use Rattle.slot_controls.proofs.TableLemmas.{AppliedEnds, applied_ends, none_there}
use Rattle.slot_controls.proofs.LengthLemmas.{chosen_length, run_all_length}

-- a run that goes on stands on the same
stands_behind :
    (base : Places) (k : Callees) (m n : Places) (held : Tables) (chosen : ℕ → List Word → NumberedOutcome) (u z : SlotRun) (r q : Run) → Stands base k m held chosen u r → AddsVariables base n
    → Follows n z.state.slots z.state.valid q.store → length z.state.valid ≡ length u.state.valid → HoldsAlike k z q → Stands base k n held chosen z q
stands_behind base k m n held chosen u z r q stands adds follows same beside = record {
  fits = stands.fits;
  adds = adds;
  follows = follows;
  headers = subst (λ i. length base.headers ≤ i) (sym same) stands.headers;
  beside = beside;
}

either_ends : (k : Callees) (m : Places) (b : Bool) (x y : SlotRun × Flow) (u v : meaning.Ended) → StepEnds k m m x u → StepEnds k m m y v → StepEnds k m m (if b then x else y) (if b then u else v)
either_ends k m true x y u v f g = f
either_ends k m false x y u v f g = g

-- what follows, where what was before did not leave
steps_then :
    (k : Callees) (m n q : Places) (f g : Flow) (u : SlotRun) (y : Run) (more : SlotRun → SlotRun × Flow) (means : Run → meaning.Ended) → Grows m n → HoldsAlike k u y
    → (Follows n u.state.slots u.state.valid y.store → StepEnds k n q (more u) (means y)) → f ≡ g → Follows m u.state.slots u.state.valid y.store → (g ≡ Go → Follows n u.state.slots u.state.valid y.store)
    → StepEnds k m q (run_behind f u more) (meaning.after g y means)
steps_then k m n q Go Go u y more means grows beside does e kept grown =
    let all = does (grown refl) in
    record { ends = record { flow = all.ends.flow; kept = follows_before m n grows (more u).0.state (means y).0 all.ends.kept; grown = all.ends.grown }; beside = all.beside }
steps_then k m n q Go Return u y more means grows beside does e kept grown = absurd (cc e)
steps_then k m n q Go Exit u y more means grows beside does e kept grown = absurd (cc e)
steps_then k m n q Return Go u y more means grows beside does e kept grown = absurd (cc e)
steps_then k m n q Return Return u y more means grows beside does e kept grown = record { ends = record { flow = refl; kept = kept; grown = λ g. absurd (cc g) }; beside = beside }
steps_then k m n q Return Exit u y more means grows beside does e kept grown = absurd (cc e)
steps_then k m n q Exit Go u y more means grows beside does e kept grown = absurd (cc e)
steps_then k m n q Exit Return u y more means grows beside does e kept grown = absurd (cc e)
steps_then k m n q Exit Exit u y more means grows beside does e kept grown = record { ends = record { flow = refl; kept = kept; grown = λ g. absurd (cc g) }; beside = beside }

pub choice_does :
    (k : Callees) (m : Places) (at : ℕ) (t : Typed) (e : Expr) (a b : Step) (st : Stmt) (other : MaybeStmt) → application e ≡ None → Means m e 1 t → DoesStep k m m a st → DoesStepElse k m b other → DoesStep k m m (branch t.term a b) (choice at e st other)
choice_does k m at t e a b st other none means does does_else base held chosen u r stands =
    let c : Calls = calls_of k held in
    let gives : Gives t u.state.slots u.state.valid (value_of e 1 r.store) = means u.state.slots u.state.valid r.store stands.follows.shows in
    let h : Bool = nat_eq (eval u.state.slots u.state.valid t.term) 1 in
    let same : h ≡ holds (value_of e 1 r.store) = sym (ap (λ (w : Word). nat_eq w.value 1) gives.is) in
    subst (λ o. StepEnds k m m (run chosen (branch t.term a b) u) (meaning.after (tested_by c o e r).flow (tested_by c o e r).run (λ q. if (tested_by c o e r).hit then meaning_of_stmt c st q else meaning_of_else c other q))) (sym none)
    (subst (λ g. StepEnds k m m (if h then run chosen a u else run chosen b u) (if g then meaning_of_stmt c st r else meaning_of_else c other r)) same
    (either_ends k m h (run chosen a u) (run chosen b u) (meaning_of_stmt c st r) (meaning_of_else c other r) (does base held chosen u r stands) (does_else base held chosen u r stands)))

-- what is meant by an `if` of an application, where this is the table
abbrev table_means : (k : Callees) (held : Tables) (x : List ℕ) (asked : Bool) (o : Option Table) (st : Stmt) (other : MaybeStmt) → Run → meaning.Ended
table_means k held x asked o st other r =
    meaning.after (apply_if k.actions o (held x) r).flow (apply_if k.actions o (held x) r).run
    (λ q. if (if asked then (apply_if k.actions o (held x) r).hit else not (apply_if k.actions o (held x) r).hit) then meaning_of_stmt (calls_of k held) st q else meaning_of_else (calls_of k held) other q)

-- where an `if` is of an application, what is said of that is said of the `if`
by_table :
    (k : Callees) (m : Places) (at : ℕ) (x : List ℕ) (asked : Bool) (e : Expr) (c : Step) (st : Stmt) (other : MaybeStmt) (o : Option Table) → application e ≡ Some (x, asked) → table_named k.tables x ≡ o
    → ((base : Places) (held : Tables) (chosen : ℕ → List Word → NumberedOutcome) (u : SlotRun) (r : Run) → Stands base k m held chosen u r → StepEnds k m m (run chosen c u) (table_means k held x asked o st other r))
    → DoesStep k m m c (choice at e st other)
by_table k m at x asked e c st other o is named does base held chosen u r stands =
    subst (λ z. StepEnds k m m (run chosen c u) (meaning.after (tested_by (calls_of k held) z e r).flow (tested_by (calls_of k held) z e r).run (λ q. if (tested_by (calls_of k held) z e r).hit then meaning_of_stmt (calls_of k held) st q else meaning_of_else (calls_of k held) other q))) (sym is)
    (subst (λ z. StepEnds k m m (run chosen c u) (table_means k held x asked z st other r)) (sym named) (does base held chosen u r stands))

some_branches :
    (k : Callees) (m : Places) (at : ℕ) (x : List ℕ) (asked : Bool) (e : Expr) (a b : Step) (st : Stmt) (other : MaybeStmt) (bs : Steps) (y : Application) (o : Option Table) → application e ≡ Some (x, asked) → DoesStep k m m a st → DoesStepElse k m b other
    → table_named k.tables x ≡ o → IsApplication k m (table_number k.tables x) o (Some (bs, y)) → DoesStep k m m (applies bs y asked a b) (choice at e st other)
some_branches k m at x asked e a b st other bs y None is does does_else named app = absurd app
some_branches k m at x asked e a b st other bs y (Some t) is does does_else named app =
    by_table k m at x asked e (applies bs y asked a b) st other (Some t) is named
    (λ base held chosen u r stands.
    let c : Calls = calls_of k held in
    let p : NumberedOutcome = outcome_for chosen y u.state in
    let z : SlotRun × meaning.Flow = chosen_run (run_nth chosen bs) y.actions p u in
    let w = apply_if k.actions (Some t) (held x) r in
    let all : AppliedEnds k m z p.hit w = applied_ends k m x t bs y named app base held chosen u r stands in
    let go : Follows m z.0.state.slots z.0.state.valid w.run.store → StepEnds k m m (if is_asked asked p.hit then run chosen a z.0 else run chosen b z.0) (if (if asked then w.hit else not w.hit) then meaning_of_stmt c st w.run else meaning_of_else c other w.run) =
    λ f.
    let there : Stands base k m held chosen z.0 w.run = stands_behind base k m m held chosen u z.0 r w.run stands stands.adds f (chosen_length chosen bs y.actions p u) all.ends.beside in
    subst (λ h. StepEnds k m m (if is_asked asked p.hit then run chosen a z.0 else run chosen b z.0) (if is_asked asked h then meaning_of_stmt c st w.run else meaning_of_else c other w.run)) all.same
    (either_ends k m (is_asked asked p.hit) (run chosen a z.0) (run chosen b z.0) (meaning_of_stmt c st w.run) (meaning_of_else c other w.run) (does base held chosen z.0 w.run there) (does_else base held chosen z.0 w.run there)) in
    steps_then k m m m z.1 w.flow z.0 w.run (λ v. if is_asked asked p.hit then run chosen a v else run chosen b v) (λ q. if (if asked then w.hit else not w.hit) then meaning_of_stmt c st q else meaning_of_else c other q)
    (grows_same m) all.ends.beside go all.ends.ends.flow all.ends.ends.kept (λ g. all.ends.ends.kept))

pub table_some :
    (k : Callees) (m : Places) (at : ℕ) (x : List ℕ) (asked : Bool) (e : Expr) (a b : Step) (st : Stmt) (other : MaybeStmt) (bs : Steps) (y : Application) → application e ≡ Some (x, asked) → DoesStep k m m a st → DoesStepElse k m b other
    → Applies k m x (Some (bs, y)) → DoesStep k m m (applies bs y asked a b) (choice at e st other)
table_some k m at x asked e a b st other bs y is does does_else app = some_branches k m at x asked e a b st other bs y (table_named k.tables x) is does does_else refl app

-- an application of no table is a miss
missed : (asked : Bool) → nat_eq (if asked then 0 else 1) 1 ≡ (if asked then false else not false)
missed true = refl
missed false = refl

pub table_none :
    (k : Callees) (m : Places) (at : ℕ) (x : List ℕ) (asked : Bool) (e : Expr) (a b : Step) (st : Stmt) (other : MaybeStmt) → application e ≡ Some (x, asked) → DoesStep k m m a st → DoesStepElse k m b other
    → Applies k m x None → DoesStep k m m (branch (constant (if asked then 0 else 1)) a b) (choice at e st other)
table_none k m at x asked e a b st other is does does_else app =
    by_table k m at x asked e (branch (constant (if asked then 0 else 1)) a b) st other None is (none_there k m (table_number k.tables x) (table_named k.tables x) app)
    (λ base held chosen u r stands.
    let c : Calls = calls_of k held in
    let h : Bool = nat_eq (if asked then 0 else 1) 1 in
    subst (λ g. StepEnds k m m (if h then run chosen a u else run chosen b u) (if g then meaning_of_stmt c st r else meaning_of_else c other r)) (missed asked)
    (either_ends k m h (run chosen a u) (run chosen b u) (meaning_of_stmt c st r) (meaning_of_else c other r) (does base held chosen u r stands) (does_else base held chosen u r stands)))

-- nothing more is in sight behind a block than before it
closed : (k : Callees) (m n : Places) (x : SlotRun × Flow) (y : meaning.Ended) → StepEnds k m n x y → StepEnds k m m x y
closed k m n x y e = record { ends = record { flow = e.ends.flow; kept = e.ends.kept; grown = λ g. e.ends.kept }; beside = e.beside }

pub block_does : (k : Callees) (m n : Places) (at : ℕ) (cs : Steps) (ss : Stmts) → DoAllSteps k m n cs ss → DoesStep k m m (group cs) (block at ss)
block_does k m n at cs ss all base held chosen u r stands = closed k m n (run_all chosen cs u) (meaning_of (calls_of k held) ss r) (all base held chosen u r stands)

pub branch_does : (k : Callees) (m n : Places) (c : Step) (st : Stmt) → DoesStep k m n c st → DoesStep k m m c st
branch_does k m n c st does base held chosen u r stands = closed k m n (run chosen c u) (meaning_of_stmt (calls_of k held) st r) (does base held chosen u r stands)

pub else_does : (k : Callees) (m : Places) (c : Step) (st : Stmt) → DoesStep k m m c st → DoesStepElse k m c (otherwise st)
else_does k m c st does = does

pub no_else : (k : Callees) (m : Places) → DoesStepElse k m (plain codes.skip) without
no_else k m base held chosen u r stands = nothing_ends k m u r stands.follows stands.beside

-- ---- one after the other

module _ (chosen : ℕ → List Word → NumberedOutcome) where
  run_one : (f : Flow) (u : SlotRun) → run_behind f u (run_all chosen done) ≡ (u, f)
  run_one Go u = refl
  run_one Return u = refl
  run_one Exit u = refl

  run_next : (f : Flow) (u : SlotRun) (c : Step) (xs : List Step) → ((u : SlotRun) → run_all chosen (steps_from (xs ++ c ∷ [])) u ≡ run_behind (run_all chosen (steps_from xs) u).1 (run_all chosen (steps_from xs) u).0 (run chosen c))
      → run_behind f u (run_all chosen (steps_from (xs ++ c ∷ []))) ≡ run_behind (run_behind f u (run_all chosen (steps_from xs))).1 (run_behind f u (run_all chosen (steps_from xs))).0 (run chosen c)
  run_next Go u c xs h = h u
  run_next Return u c xs h = refl
  run_next Exit u c xs h = refl

  run_all-append : (xs : List Step) (c : Step) (u : SlotRun) → run_all chosen (steps_from (xs ++ c ∷ [])) u ≡ run_behind (run_all chosen (steps_from xs) u).1 (run_all chosen (steps_from xs) u).0 (run chosen c)
  run_all-append [] c u = run_one (run chosen c u).1 (run chosen c u).0
  run_all-append (x ∷ xs) c u = run_next (run chosen x u).1 (run chosen x u).0 c xs (run_all-append xs c)

pub all_more :
    (k : Callees) (m n q : Places) (xs : List Step) (ys : List Stmt) (c : Step) (st : Stmt) → Grows m n → Widens m n → DoAllSteps k m n (steps_from xs) (stmts_from ys) → DoesStep k n q c st
    → DoAllSteps k m q (steps_from (xs ++ c ∷ [])) (stmts_from (ys ++ st ∷ []))
all_more k m n q xs ys c st grows widens all does base held chosen u r stands =
    let e = all base held chosen u r stands in
    let z : SlotRun = (run_all chosen (steps_from xs) u).0 in
    let y : Run = (meaning_of (calls_of k held) (stmts_from ys) r).0 in
    subst (λ x. StepEnds k m q x (meaning_of (calls_of k held) (stmts_from (ys ++ st ∷ [])) r)) (sym (run_all-append chosen xs c u))
    (subst (λ v. StepEnds k m q (run_behind (run_all chosen (steps_from xs) u).1 z (run chosen c)) v) (sym (meaning-append (calls_of k held) ys st r))
    (steps_then k m n q (run_all chosen (steps_from xs) u).1 (meaning_of (calls_of k held) (stmts_from ys) r).1 z y (run chosen c) (meaning_of_stmt (calls_of k held) st) grows e.beside
    (λ f. does base held chosen z y (stands_behind base k m n held chosen u z r y stands (widens base stands.adds) f (run_all_length chosen (steps_from xs) u) e.beside))
    e.ends.flow e.ends.kept e.ends.grown))
