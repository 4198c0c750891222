-- A passage gives at most as many digests as the bound says, and `return` ends the action that it stands in.
use Rattle.std.proofs.Common.{◌≡◌, ◌≢◌, ℕ, ◌+◌, ◌≤◌, max, List, [], ◌∷◌, length, Bool, true, false, cond, Option, Some, None, refl, sym, ap, length-append, arith}
use Rattle.std.specs.Prelude.{take, map, ◌||◌}
use Rattle.std.proofs.lemmas.Slice.Eq.{bytes_eq-Decides}
use Rattle.bit_values.specs.Bits.{Word}
use Rattle.bit_values.specs.Widths.{holds}
use Rattle.lex_text.specs.Names.{same_text}
use Rattle.p4_tree.specs.Tree.{Expr, Stmt, Stmts, MaybeStmt, nothing, block, var, assign, choice, return_, exit_, call, done, next, without, otherwise}
use Rattle.p4_meaning.specs.Value.{value_of}
use Rattle.p4_meaning.specs.Statements.{Flow, Go, Return, Exit, Digest, Run, Ended, after, in_store, Act, makes, drops, reads, writes, tells, sums, runs, applies, idle, act_of, summed, Calls, no_calls, done_by, application, tested_by, tested, meaning_of_stmt, meaning_of_else, meaning_of}
use Rattle.p4_meaning.specs.Choice.{Entry, IsChoice, choice_of}
use Rattle.p4_meaning.specs.Scope.{is_among}
use Rattle.p4_meaning.specs.Parsing.{ParserEnd, parse_of}
use Rattle.p4_meaning.specs.Actions.{Action, action_named, params_of, args_of, bound, flow_behind, act_if}
use Rattle.p4_meaning.specs.Tables.{Table, Chosen, Entries, Tables, table_named, has_ternary, key_words, chosen_runs, apply_if, calls_in}
use Rattle.p4_meaning.specs.Parts.{Parts, whole}
use Rattle.p4_meaning.specs.Pass.{Registers, Queued, run_from, entered_behind, parts_enter, parts_leave, store_behind}
use Rattle.p4_meaning.specs.DigestBound.{most_of_act, most_of_test, most_of_stmt, most_of_else, most_of, none_told, most_of_action, most_named, greatest, most_of_table, most_applied, enter_bound, leave_bound}
use Rattle.p4_meaning.specs.Laws.{NeverReturns, RunsListed, AreListed}
use Rattle.p4_meaning.proofs.Choices.{choice_is, below}

-- ---- `return`

not_return : (f : Flow) → flow_behind f ≢ Return
not_return Go = λ e. cc
not_return Return = λ e. cc
not_return Exit = λ e. cc

action_flow : (a : Option Action) (ws : List Word) (r : Run) → (act_if a ws r).1 ≢ Return
action_flow None ws r = λ e. cc
action_flow (Some a) ws r = not_return (meaning_of no_calls a.body (in_store r (bound a.params ws r.store))).1

chosen_flow : (as' : List Action) (d : Chosen) (o : Option Entry) (r : Run) → (chosen_runs as' d o r).flow ≢ Return
chosen_flow as' d None r = action_flow (action_named as' d.action) d.args r
chosen_flow as' d (Some e) r = action_flow (action_named as' e.action) e.args r

table_flow : (as' : List Action) (t : Option Table) (held : Entries) (r : Run) → (apply_if as' t held r).flow ≢ Return
table_flow as' None held r = λ e. cc
table_flow as' (Some t) held r = chosen_flow as' held.default (choice_of (has_ternary t.keys) held.listed (key_words t.keys r.store)) r

pub never_returns : (as' : List Action) (ts : List Table) (held : Tables) → NeverReturns (calls_in as' ts held)
never_returns as' ts held =
    record {
      actions = λ x es r. action_flow (action_named as' x) (args_of (params_of (action_named as' x)) es r.store) r;
      tables = λ x r. table_flow as' (table_named ts x) (held x) r;
    }

-- ---- digests

-- the run b has at most n digests more than the run a
pub record More (a : Run) (n : ℕ) (b : Run) : Type 0 where
  pub few : length b.digests ≤ length a.digests + n

no_more : (a : Run) (n : ℕ) → More a n a
no_more a n = record { few = omega arith }

pub record FewCalls (calls : Calls) (action table : List ℕ → ℕ) : Type 0 where
  pub actions : (x : List ℕ) (es : List Expr) (r : Run) → More r (action x) (calls.run_action x es r).0
  pub tables : (x : List ℕ) (r : Run) → More r (table x) (calls.apply_table x r).run

few_no_calls : FewCalls no_calls none_told none_told
few_no_calls = record { actions = λ x es r. no_more r 0; tables = λ x r. no_more r 0 }

module _ (calls : Calls) (action table : List ℕ → ℕ) (few : FewCalls calls action table) where
  act_few : (k : Act) (r : Run) → More r (most_of_act action table k) (done_by calls k r).0
  act_few (makes h b) r = record { few = omega arith }
  act_few drops r = record { few = omega arith }
  act_few (reads x t i) r = record { few = omega arith }
  act_few (writes x i v) r = record { few = omega arith }
  act_few (tells n es) r =
      let d : Digest = record { receiver = n; values = take 9 (map (λ e. value_of e 0 r.store) es) } in
      let long = length-append r.digests (d ∷ []) in
      record { few = omega arith }
  act_few (sums v c es f) r = go (holds (value_of c 1 r.store))
    where
      go : (b : Bool) → More r 0 (cond b (in_store r (summed v es f r.store)) r)
      go true = record { few = omega arith }
      go false = no_more r 0
  act_few (runs x es) r = few.actions x es r
  act_few (applies x) r = few.tables x r
  act_few idle r = no_more r 0

  test_few : (t : Option (List ℕ × Bool)) (e : Expr) (r : Run) → More r (most_of_test action table t) (tested_by calls t e r).run
  test_few None e r = no_more r 0
  test_few (Some t) e r = few.tables t.0 r

  after_few : (a : Run) (m n : ℕ) (f : Flow) (r : Run) (more : Run → Ended) → More a m r → More r n (more r).0 → More a (m + n) (after f r more).0
  after_few a m n Go r more h k = record { few = omega (arith, h.few, k.few) }
  after_few a m n Return r more h k = record { few = omega (arith, h.few) }
  after_few a m n Exit r more h k = record { few = omega (arith, h.few) }

  either : (i : Bool) (m n : ℕ) (q : Run) (x y : Ended) → More q m x.0 → More q n y.0 → More q (max m n) (cond i x y).0
  either true m n q x y h k = record { few = omega (arith, h.few) }
  either false m n q x y h k = record { few = omega (arith, k.few) }

  mutual
    stmt_few : (st : Stmt) (r : Run) → More r (most_of_stmt action table st) (meaning_of_stmt calls st r).0
    stmt_few (nothing p) r = no_more r 0
    stmt_few (block p ss) r = all_few ss r
    stmt_few (var p ty x e) r = record { few = omega arith }
    stmt_few (assign p target e) r = record { few = omega arith }
    stmt_few (choice p e a b) r =
        let t = tested calls e r in
        after_few r (most_of_test action table (application e)) (max (most_of_stmt action table a) (most_of_else action table b)) t.flow t.run
        (λ q. cond t.hit (meaning_of_stmt calls a q) (meaning_of_else calls b q)) (test_few (application e) e r)
        (either t.hit (most_of_stmt action table a) (most_of_else action table b) t.run (meaning_of_stmt calls a t.run) (meaning_of_else calls b t.run) (stmt_few a t.run) (else_few b t.run))
    stmt_few (return_ p) r = no_more r 0
    stmt_few (exit_ p) r = no_more r 0
    stmt_few (call p callee args) r = act_few (act_of callee args) r

    else_few : (st : MaybeStmt) (r : Run) → More r (most_of_else action table st) (meaning_of_else calls st r).0
    else_few without r = no_more r 0
    else_few (otherwise st) r = stmt_few st r

    pub all_few : (ss : Stmts) (r : Run) → More r (most_of action table ss) (meaning_of calls ss r).0
    all_few done r = no_more r 0
    all_few (next st ss) r =
        after_few r (most_of_stmt action table st) (most_of action table ss) (meaning_of_stmt calls st r).1 (meaning_of_stmt calls st r).0 (meaning_of calls ss)
        (stmt_few st r) (all_few ss (meaning_of_stmt calls st r).0)

-- ---- actions and tables

action_few : (a : Option Action) (ws : List Word) (r : Run) → More r (most_of_action a) (act_if a ws r).0
action_few None ws r = no_more r 0
action_few (Some a) ws r =
    let t = in_store r (bound a.params ws r.store) in
    let h = all_few no_calls none_told none_told few_no_calls a.body t in
    record { few = h.few }

-- an action among some gives at most what the greatest gives
among : (as' : List Action) (xs : List (List ℕ)) (x : List ℕ) → is_among xs x ≡ true → most_named as' x ≤ greatest as' xs
among as' [] x e = absurd (cc)
among as' (y ∷ ys) x e = go (same_text y x) refl e (among as' ys x)
  where
    go : (b : Bool) → same_text y x ≡ b → (b || is_among ys x) ≡ true → (is_among ys x ≡ true → most_named as' x ≤ greatest as' ys) → most_named as' x ≤ max (most_named as' y) (greatest as' ys)
    go true i e more = let same : y ≡ x = (bytes_eq-Decides y x).0 i in let here : most_named as' x ≡ most_named as' y = ap (most_named as') (sym same) in omega (arith, here)
    go false i e more = let rest = more e in omega (arith, rest)

more_than : (a : Run) (m n : ℕ) (b : Run) → m ≤ n → More a m b → More a n b
more_than a m n b h k = record { few = omega (arith, k.few) }

chosen_few : (as' : List Action) (t : Table) (held : Entries) (ks : List Word) (o : Option Entry) (r : Run) → RunsListed (Some t) held → IsChoice (has_ternary t.keys) held.listed ks o
    → More r (most_of_table as' (Some t)) (chosen_runs as' held.default o r).run
chosen_few as' t held ks None r l c =
    more_than r (most_named as' held.default.action) (most_of_table as' (Some t)) _ (among as' (t.default.action ∷ t.actions) held.default.action l.1) (action_few (action_named as' held.default.action) held.default.args r)
chosen_few as' t held ks (Some e) r l c =
    let listed = below (has_ternary t.keys) ks (λ f. is_among (t.default.action ∷ t.actions) f.action ≡ true) held.listed e c.listed l.0 in
    more_than r (most_named as' e.action) (most_of_table as' (Some t)) _ (among as' (t.default.action ∷ t.actions) e.action listed) (action_few (action_named as' e.action) e.args r)

table_few : (as' : List Action) (t : Option Table) (held : Entries) (r : Run) → RunsListed t held → More r (most_of_table as' t) (apply_if as' t held r).run
table_few as' None held r l = no_more r 0
table_few as' (Some t) held r l = chosen_few as' t held (key_words t.keys r.store) (choice_of (has_ternary t.keys) held.listed (key_words t.keys r.store)) r l (choice_is (has_ternary t.keys) (key_words t.keys r.store) held.listed)

few_calls : (p : Parts) (held : Tables) → AreListed p held → FewCalls (calls_in p.actions p.tables held) (most_named p.actions) (most_applied p.actions p.tables)
few_calls p held l =
    record {
      actions = λ x es r. action_few (action_named p.actions x) (args_of (params_of (action_named p.actions x)) es r.store) r;
      tables = λ x r. table_few p.actions (table_named p.tables x) (held x) r (l x);
    }

-- ---- a passage

pub enter_few : (p : Parts) (held : Tables) → AreListed p held → (cells : Registers) (port : ℕ) (frame : List ℕ) → length (parts_enter p held cells port frame).digests ≤ enter_bound p
unfolding parts_enter
enter_few p held l cells port frame = go (parse_of p.headers p.states _)
  where
    go : (e : ParserEnd) → length (entered_behind p held cells e).digests ≤ enter_bound p
    go e =
        let begins = run_from (store_behind e) cells in
        let verified = all_few no_calls none_told none_told few_no_calls p.verify begins in
        let ran = all_few (calls_in p.actions p.tables held) (most_named p.actions) (most_applied p.actions p.tables) (few_calls p held l) (whole p.ingress) (meaning_of no_calls p.verify begins).0 in
        omega (arith, verified.few, ran.few)

pub leave_few : (p : Parts) (held : Tables) → AreListed p held → (cells : Registers) (q : Queued) → length (parts_leave p held cells q).digests ≤ leave_bound p
unfolding parts_leave
leave_few p held l cells q =
    let ran = all_few (calls_in p.actions p.tables held) (most_named p.actions) (most_applied p.actions p.tables) (few_calls p held l) (whole p.egress) (run_from q.store cells) in
    omega (arith, ran.few)
