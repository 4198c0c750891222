-- Blocks, branches and statements one after the other.
use Rattle.std.proofs.Common.{◌≡◌, ℕ, zero, suc, ◌≤◌, length, take, List, [], ◌∷◌, ◌++◌, Bool, true, false, if◌then◌else◌, Option, Some, None, refl, sym, ap, ◌∙◌, subst, arith, nat_eq, length-take}
use Rattle.std.proofs.lemmas.Grind.{common_steps}
use Rattle.std.proofs.lemmas.List.{take-take}
use Rattle.bit_values.specs.Bits.{Word}
use Rattle.bit_values.specs.Widths.{holds}
use Rattle.lex_text.specs.Names.{same_path}
use Rattle.p4_tree.specs.Tree.{Expr, Stmt, Stmts, MaybeStmt, block, choice, done, otherwise, stmts_from}
use Rattle.p4_meaning.specs.Value.{value_of}
use Rattle.p4_meaning.specs.Statements.{Flow, Go, Return, Exit, Run, Ended, Calls, after, application, tested_by, meaning_of_stmt, meaning_of_else, meaning_of}
use Rattle.slot_terms.specs.Terms.{eval}
use Rattle.slot_terms.specs.Typed.{Typed, Gives}
use Rattle.slot_terms.specs.Places.{Place, Places, place_at, header_number, Follows, Means}
use Rattle.slot_statements.specs.Codes as codes
use Rattle.slot_terms.specs.States.{State}
use Rattle.slot_statements.specs.Codes.{Code, Codes, group, branch, codes_from, behind, exec, exec_all}
use Rattle.slot_statements.specs.Runs.{Ends, Does, DoAll, DoesElse, Grows}

-- ---- fewer places

found_front : (b : Bool) (x r : Place) (y z : Option Place) → (y ≡ Some r → z ≡ Some r) → (if b then Some x else y) ≡ Some r → (if b then Some x else z) ≡ Some r
found_front true x r y z f h = h
found_front false x r y z f h = f h

found_take : (k : ℕ) (rows : List Place) (p : List (List ℕ)) (r : Place) → place_at (take k rows) p ≡ Some r → place_at rows p ≡ Some r
found_take zero rows p r e = absurd (cc e)
found_take (suc k) [] p r e = e
found_take (suc k) (x ∷ rows) p r e = found_front (same_path x.path p) x r (place_at (take k rows) p) (place_at rows p) (λ h. found_take k rows p r h) e

pub found_before : (m n : Places) → Grows m n → (p : List (List ℕ)) (r : Place) → place_at m.rows p ≡ Some r → place_at n.rows p ≡ Some r
found_before m n grows p r e = found_take (length m.rows) n.rows p r (subst (λ rows. place_at rows p ≡ Some r) (sym grows.rows) e)

pub follows_before : (m n : Places) → Grows m n → (s : State) (y : Run) → Follows n s.slots s.valid y.store → Follows m s.slots s.valid y.store
follows_before m n grows s y follows = record {
  shows = record {
    values = λ p r e. follows.shows.values p r (found_before m n grows p r e);
    headers = λ h k e. follows.shows.headers h k (subst (λ hs. header_number hs h ≡ Some k) (sym grows.headers) e);
  };
  bare = follows.bare;
  room = follows.room ∙ grows.size;
}

pub grows_same : (m : Places) → Grows m m
grows_same m = record { rows = all_taken m.rows; headers = refl; size = refl }
  where
    all_taken : (xs : List Place) → take (length xs) xs ≡ xs
    all_taken xs = grind (arith, common_steps)

pub grows_twice : (m n k : Places) → Grows m n → Grows n k → Grows m k
grows_twice m n k a b =
    let le : length m.rows ≤ length n.rows = grind (arith, ap length a.rows, length-take (length m.rows) n.rows) in
    record {
      rows = sym (take-take (length m.rows) (length n.rows) k.rows le) ∙ ap (take (length m.rows)) b.rows ∙ a.rows;
      headers = b.headers ∙ a.headers;
      size = b.size ∙ a.size;
    }

-- ---- blocks and branches

pub block_does : (m n : Places) (at : ℕ) (cs : Codes) (ss : Stmts) → DoAll m n cs ss → Does m m (group cs) (block at ss)
block_does m n at cs ss all calls s y follows = let e = all calls s y follows in record { flow = e.flow; kept = e.kept; grown = λ g. e.kept }

pub branch_does : (m n : Places) (c : Code) (st : Stmt) → Does m n c st → Does m m c st
branch_does m n c st does calls s y follows = let e = does calls s y follows in record { flow = e.flow; kept = e.kept; grown = λ g. e.kept }

pub else_does : (m : Places) (c : Code) (st : Stmt) → Does m m c st → DoesElse m c (otherwise st)
else_does m c st does calls s y follows = does calls s y follows

pub choice_does :
    (m : Places) (at : ℕ) (e : Expr) (t : Typed) (a b : Code) (st : Stmt) (other : MaybeStmt) → application e ≡ None → Means m e 1 t → Does m m a st → DoesElse m b other
    → Does m m (branch t.term a b) (choice at e st other)
choice_does m at e t a b st other none means does does_else calls s y follows =
    let gives : Gives t s.slots s.valid (value_of e 1 y.store) = means s.slots s.valid y.store follows.shows in
    let same : holds (value_of e 1 y.store) ≡ nat_eq (eval s.slots s.valid t.term) 1 = ap (λ (w : Word). nat_eq w.value 1) gives.is in
    let go : (h : Bool) → Ends m m (if h then exec a s else exec b s) (if h then meaning_of_stmt calls st y else meaning_of_else calls other y) =
    λ h. elim h as (λ h. Ends m m (if h then exec a s else exec b s) (if h then meaning_of_stmt calls st y else meaning_of_else calls other y)) [ true ↦ does calls s y follows | false ↦ does_else calls s y follows ] in
    subst
    (λ o. Ends m m (exec (branch t.term a b) s) (after (tested_by calls o e y).flow (tested_by calls o e y).run (λ q. if (tested_by calls o e y).hit then meaning_of_stmt calls st q else meaning_of_else calls other q)))
    (sym none)
    (subst (λ h. Ends m m (exec (branch t.term a b) s) (if h then meaning_of_stmt calls st y else meaning_of_else calls other y)) (sym same)
    (go (nat_eq (eval s.slots s.valid t.term) 1)))

-- ---- one after the other

exec_one : (f : Flow) (s : State) → behind f s (exec_all codes.done) ≡ (s, f)
exec_one Go s = refl
exec_one Return s = refl
exec_one Exit s = refl

mean_one : (calls : Calls) (f : Flow) (y : Run) → after f y (meaning_of calls done) ≡ (y, f)
mean_one calls Go y = refl
mean_one calls Return y = refl
mean_one calls Exit y = refl

exec_step : (f : Flow) (s : State) (c : Code) (xs : List Code) → ((s : State) → exec_all (codes_from (xs ++ c ∷ [])) s ≡ behind (exec_all (codes_from xs) s).1 (exec_all (codes_from xs) s).0 (exec c))
    → behind f s (exec_all (codes_from (xs ++ c ∷ []))) ≡ behind (behind f s (exec_all (codes_from xs))).1 (behind f s (exec_all (codes_from xs))).0 (exec c)
exec_step Go s c xs h = h s
exec_step Return s c xs h = refl
exec_step Exit s c xs h = refl

pub exec-append : (xs : List Code) (c : Code) (s : State) → exec_all (codes_from (xs ++ c ∷ [])) s ≡ behind (exec_all (codes_from xs) s).1 (exec_all (codes_from xs) s).0 (exec c)
exec-append [] c s = exec_one (exec c s).1 (exec c s).0
exec-append (x ∷ xs) c s = exec_step (exec x s).1 (exec x s).0 c xs (exec-append xs c)

mean_step : (calls : Calls) (f : Flow) (y : Run) (st : Stmt) (ys : List Stmt)
    → ((y : Run) → meaning_of calls (stmts_from (ys ++ st ∷ [])) y ≡ after (meaning_of calls (stmts_from ys) y).1 (meaning_of calls (stmts_from ys) y).0 (meaning_of_stmt calls st))
    → after f y (meaning_of calls (stmts_from (ys ++ st ∷ []))) ≡ after (after f y (meaning_of calls (stmts_from ys))).1 (after f y (meaning_of calls (stmts_from ys))).0 (meaning_of_stmt calls st)
mean_step calls Go y st ys h = h y
mean_step calls Return y st ys h = refl
mean_step calls Exit y st ys h = refl

pub meaning-append : (calls : Calls) (ys : List Stmt) (st : Stmt) (y : Run) → meaning_of calls (stmts_from (ys ++ st ∷ [])) y ≡ after (meaning_of calls (stmts_from ys) y).1 (meaning_of calls (stmts_from ys) y).0 (meaning_of_stmt calls st)
meaning-append calls [] st y = mean_one calls (meaning_of_stmt calls st y).1 (meaning_of_stmt calls st y).0
meaning-append calls (x ∷ ys) st y = mean_step calls (meaning_of_stmt calls x y).1 (meaning_of_stmt calls x y).0 st ys (meaning-append calls ys st)

-- what follows, where what was before did not leave
pub ends_then :
    (m n k : Places) (f g : Flow) (s : State) (y : Run) (more : State → State × Flow) (means : Run → Ended) → Grows m n → (Follows n s.slots s.valid y.store → Ends n k (more s) (means y)) → f ≡ g → Follows m s.slots s.valid y.store
    → (g ≡ Go → Follows n s.slots s.valid y.store) → Ends m k (behind f s more) (after g y means)
ends_then m n k Go Go s y more means grows does e kept grown =
    let r = does (grown refl) in
    record { flow = r.flow; kept = follows_before m n grows (more s).0 (means y).0 r.kept; grown = r.grown }
ends_then m n k Go Return s y more means grows does e kept grown = absurd (cc e)
ends_then m n k Go Exit s y more means grows does e kept grown = absurd (cc e)
ends_then m n k Return Go s y more means grows does e kept grown = absurd (cc e)
ends_then m n k Return Return s y more means grows does e kept grown = record { flow = refl; kept = kept; grown = λ g. absurd (cc g) }
ends_then m n k Return Exit s y more means grows does e kept grown = absurd (cc e)
ends_then m n k Exit Go s y more means grows does e kept grown = absurd (cc e)
ends_then m n k Exit Return s y more means grows does e kept grown = absurd (cc e)
ends_then m n k Exit Exit s y more means grows does e kept grown = record { flow = refl; kept = kept; grown = λ g. absurd (cc g) }

pub all_more :
    (m n k : Places) (xs : List Code) (ys : List Stmt) (c : Code) (st : Stmt) → Grows m n → DoAll m n (codes_from xs) (stmts_from ys) → Does n k c st
    → DoAll m k (codes_from (xs ++ c ∷ [])) (stmts_from (ys ++ st ∷ []))
all_more m n k xs ys c st grows all does calls s y follows =
    let e = all calls s y follows in
    subst (λ x. Ends m k x (meaning_of calls (stmts_from (ys ++ st ∷ [])) y)) (sym (exec-append xs c s))
    (subst (λ z. Ends m k (behind (exec_all (codes_from xs) s).1 (exec_all (codes_from xs) s).0 (exec c)) z) (sym (meaning-append calls ys st y))
    (ends_then m n k (exec_all (codes_from xs) s).1 (meaning_of calls (stmts_from ys) y).1 (exec_all (codes_from xs) s).0 (meaning_of calls (stmts_from ys) y).0 (exec c) (meaning_of_stmt calls st) grows
    (λ f. does calls (exec_all (codes_from xs) s).0 (meaning_of calls (stmts_from ys) y).0 f) e.flow e.kept e.grown))
