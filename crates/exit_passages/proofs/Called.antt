-- Statements do the same over actions and tables that they find alike.
use Rattle.std.proofs.Common.{◌≡◌, ℕ, List, [], ◌∷◌, Bool, true, false, not, ◌||◌, cond, Option, Some, None, is_none, refl, sym, ap, ap₂, ◌∙◌, subst}
use Rattle.std.specs.List.{AllByRecursion, list_any}
use Rattle.lex_text.specs.Names.{same_text}
use Rattle.bit_values.specs.Bits.{Word}
use Rattle.p4_tree.specs.Tree.{Expr, Stmt, Stmts, MaybeStmt, nothing, block, var, assign, choice, return_, exit_, call, done, next, without, otherwise}
use Rattle.p4_meaning.specs.Statements.{Act, makes, drops, reads, writes, tells, sums, runs, applies, idle, act_of, application, Run, Ended, Tested, Calls, after, done_by, tested_by, meaning_of_stmt, meaning_of_else, meaning_of}
use Rattle.p4_meaning.specs.Choice.{Entry, choice_of}
use Rattle.p4_meaning.specs.Actions.{Action, action_named, params_of, args_of, act_if}
use Rattle.p4_meaning.specs.Tables.{Chosen, Table, Tables, table_named, has_ternary, key_words, test_behind, chosen_runs, apply_if, calls_in}
use Rattle.exit_statements.specs.Without.{Body, in_action, in_control, Flags, Exits, table_leaves, test_leaves, call_leaves, stmt_leaves, else_leaves, stmts_leave, is_var, in_list, in_branch, exit_in, stmt_without, else_without, stmts_without}
use Rattle.exit_statements.specs.Actions.{action_exits, table_exits, exits_of, IsListed, AreListed, RunListed}
use Rattle.exit_statements.proofs.Values.{text_decides}
use Rattle.exit_statements.proofs.Called.{chosen_holds}
use Rattle.exit_programs.specs.Calls.{FindsAction, FindsListed, FindsTable, FindsAct, FindsApplied, FindsStmt, FindsElse, FindStmts}

-- an action that is found by no name is found by none among fewer
abbrev pub Within : List Action → List Action → Type 0
Within as' bs = (x : List ℕ) → action_named as' x ≡ None → action_named bs x ≡ None

module _ (as' bs : List Action) (ts us : List Table) where
  among : (xs : List (List ℕ)) (x : List ℕ) → AllByRecursion (FindsAction as' bs ts us) xs → list_any (same_text x) xs ≡ true → FindsAction as' bs ts us x
  among [] x h one = absurd (cc one)
  among (y ∷ ys) x h one = go (among ys x h.1) (same_text x y) refl one
    where
      go : (list_any (same_text x) ys ≡ true → FindsAction as' bs ts us x) → (b : Bool) → same_text x y ≡ b → (b || list_any (same_text x) ys) ≡ true → FindsAction as' bs ts us x
      go rest true is k = subst (FindsAction as' bs ts us) (sym ((text_decides x y).0 is)) h.0
      go rest false is k = rest k

  listed : Within as' bs → (t : Table) (x : List ℕ) → AllByRecursion (FindsAction as' bs ts us) t.actions → IsListed as' t x → FindsAction as' bs ts us x
  listed within t x h one = go (list_any (same_text x) t.actions) refl one
    where
      absent : (o : Option Action) → action_named as' x ≡ o → is_none o ≡ true → FindsAction as' bs ts us x
      absent None e h = within x e ∙ sym e
      absent (Some a) e h = absurd (cc h)

      go : (b : Bool) → list_any (same_text x) t.actions ≡ b → (b || is_none (action_named as' x)) ≡ true → FindsAction as' bs ts us x
      go true is k = among t.actions x h is
      go false is k = absent (action_named as' x) refl k

  -- ---- runs

  module _ (held : Tables) (within : Within as' bs) (runs_listed : RunListed as' ts held) where
    abbrev c : Calls
    c = calls_in as' ts held

    abbrev d : Calls
    d = calls_in bs us held

    called : (x : List ℕ) (ws : Option Action → List Word) (r : Run) → FindsAction as' bs ts us x → act_if (action_named bs x) (ws (action_named bs x)) r ≡ act_if (action_named as' x) (ws (action_named as' x)) r
    called x ws r e = ap (λ (o : Option Action). act_if o (ws o) r) e

    chosen : (t : Table) (h : Chosen) (o : Option Entry) (r : Run) → FindsAction as' bs ts us h.action → ((e : Entry) → o ≡ Some e → FindsAction as' bs ts us e.action) → chosen_runs bs h o r ≡ chosen_runs as' h o r
    chosen t h None r dl el = ap (λ (e : Ended). test_behind e false) (called h.action (λ o. h.args) r dl)
    chosen t h (Some e) r dl el = ap (λ (x : Ended). test_behind x true) (called e.action (λ o. e.args) r (el e refl))

    applied : (x : List ℕ) (o : Option Table) (r : Run) → ((t : Table) → o ≡ Some t → AreListed as' t (held x)) → FindsListed as' bs ts us o → apply_if bs o (held x) r ≡ apply_if as' o (held x) r
    applied x None r l h = refl
    applied x (Some t) r l h =
        let k = l t refl in
        chosen t (held x).default (choice_of (has_ternary t.keys) (held x).listed (key_words t.keys r.store)) r (listed within t (held x).default.action h k.default)
        (λ e is. listed within t e.action h (chosen_holds (λ f. IsListed as' t f.action) (has_ternary t.keys) (held x).listed (key_words t.keys r.store) e k.entries is))

    table_same : (x : List ℕ) (r : Run) → FindsTable as' bs ts us x → d.apply_table x r ≡ c.apply_table x r
    table_same x r h = ap (λ (o : Option Table). apply_if bs o (held x) r) h.same ∙ applied x (table_named ts x) r (λ t e. runs_listed x t e) h.listed

    done_same : (a : Act) (r : Run) → FindsAct as' bs ts us a → done_by d a r ≡ done_by c a r
    done_same (makes h b) r f = refl
    done_same drops r f = refl
    done_same (reads x t i) r f = refl
    done_same (writes x i v) r f = refl
    done_same (tells n es) r f = refl
    done_same (sums v e es field) r f = refl
    done_same (runs x es) r f = called x (λ o. args_of (params_of o) es r.store) r f
    done_same (applies x) r f = ap (λ (t : Tested). (t.run, t.flow)) (table_same x r f)
    done_same idle r f = refl

    tested_same : (o : Option (List ℕ × Bool)) (e : Expr) (r : Run) → FindsApplied as' bs ts us o → tested_by d o e r ≡ tested_by c o e r
    tested_same None e r f = refl
    tested_same (Some t) e r f = ap (λ (a : Tested). record a { hit = cond t.1 a.hit (not a.hit) }) (table_same t.0 r f)

    after_same : (x y : Ended) (f g : Run → Ended) → x ≡ y → ((r : Run) → f r ≡ g r) → after x.1 x.0 f ≡ after y.1 y.0 g
    after_same x y f g e h = λ i. after (e i).1 (e i).0 (λ r. h r i)

    mutual
      stmt_same : (s : Stmt) (r : Run) → FindsStmt as' bs ts us s → meaning_of_stmt d s r ≡ meaning_of_stmt c s r
      stmt_same (nothing p) r f = refl
      stmt_same (block p ss) r f = all_same ss r f
      stmt_same (var p ty x e) r f = refl
      stmt_same (assign p target e) r f = refl
      stmt_same (choice p e s t) r f =
          let test = tested_same (application e) e r f.0 in
          λ i. after (test i).flow (test i).run (λ q. cond (test i).hit (stmt_same s q f.1.0 i) (else_same t q f.1.1 i))
      stmt_same (return_ p) r f = refl
      stmt_same (exit_ p) r f = refl
      stmt_same (call p callee args) r f = done_same (act_of callee args) r f

      else_same : (s : MaybeStmt) (r : Run) → FindsElse as' bs ts us s → meaning_of_else d s r ≡ meaning_of_else c s r
      else_same without r f = refl
      else_same (otherwise s) r f = stmt_same s r f

      pub all_same : (ss : Stmts) (r : Run) → FindStmts as' bs ts us ss → meaning_of d ss r ≡ meaning_of c ss r
      all_same done r f = refl
      all_same (next s ss) r f = after_same (meaning_of_stmt d s r) (meaning_of_stmt c s r) (meaning_of d ss) (meaning_of c ss) (stmt_same s r f.0) (λ q. all_same ss q f.1)

  -- ---- what may leave

  abbrev m : Exits
  m = exits_of as' ts

  abbrev k : Exits
  k = exits_of bs us

  any_same : (xs : List (List ℕ)) → AllByRecursion (FindsAction as' bs ts us) xs → list_any (λ x. action_exits (action_named bs x)) xs ≡ list_any (λ x. action_exits (action_named as' x)) xs
  any_same [] h = refl
  any_same (x ∷ xs) h = ap₂ (λ (a b : Bool). a || b) (ap action_exits h.0) (any_same xs h.1)

  listed_exits : (o : Option Table) → FindsListed as' bs ts us o → table_exits bs o ≡ table_exits as' o
  listed_exits None h = refl
  listed_exits (Some t) h = any_same t.actions h

  table_exit : (x : List ℕ) → FindsTable as' bs ts us x → k.table x ≡ m.table x
  table_exit x h = ap (table_exits bs) h.same ∙ listed_exits (table_named ts x) h.listed

  call_same : (a : Act) → FindsAct as' bs ts us a → call_leaves k a ≡ call_leaves m a
  call_same (makes h b) f = refl
  call_same drops f = refl
  call_same (reads x t i) f = refl
  call_same (writes x i v) f = refl
  call_same (tells n es) f = refl
  call_same (sums v e es field) f = refl
  call_same (runs x es) f = ap action_exits f
  call_same (applies x) f = table_exit x f
  call_same idle f = refl

  test_same : (o : Option (List ℕ × Bool)) → FindsApplied as' bs ts us o → table_leaves k o ≡ table_leaves m o
  test_same None f = refl
  test_same (Some t) f = table_exit t.0 f

  mutual
    leaves_same : (s : Stmt) → FindsStmt as' bs ts us s → stmt_leaves k s ≡ stmt_leaves m s
    leaves_same (nothing p) f = refl
    leaves_same (block p ss) f = leave_same ss f
    leaves_same (var p ty x e) f = refl
    leaves_same (assign p target e) f = refl
    leaves_same (choice p e s t) f = ap₂ (λ (a b : Bool). a || b) (test_same (application e) f.0) (ap₂ (λ (a b : Bool). a || b) (leaves_same s f.1.0) (others_same t f.1.1))
    leaves_same (return_ p) f = refl
    leaves_same (exit_ p) f = refl
    leaves_same (call p callee args) f = call_same (act_of callee args) f

    others_same : (s : MaybeStmt) → FindsElse as' bs ts us s → else_leaves k s ≡ else_leaves m s
    others_same without f = refl
    others_same (otherwise s) f = leaves_same s f

    leave_same : (ss : Stmts) → FindStmts as' bs ts us ss → stmts_leave k ss ≡ stmts_leave m ss
    leave_same done f = refl
    leave_same (next s ss) f = ap₂ (λ (a b : Bool). a || b) (leaves_same s f.0) (leave_same ss f.1)

  -- ---- the rewriting

  module _ (n : Flags) (body : Body) where
    mutual
      without_same : (s : Stmt) → FindsStmt as' bs ts us s → stmt_without n k body s ≡ stmt_without n m body s
      without_same (nothing p) f = refl
      without_same (block p ss) f = ap (block p) (withouts_same false ss f)
      without_same (var p ty x e) f = refl
      without_same (assign p target e) f = refl
      without_same (choice p e s t) f =
          λ i. choice p e (in_branch n m body (test_same (application e) f.0 i) (without_same s f.1.0 i)) (else_without_same (test_leaves k e) (test_leaves m e) t (test_same (application e) f.0) f.1.1 i)
      without_same (return_ p) f = refl
      without_same (exit_ p) f = refl
      without_same (call p callee args) f = refl

      else_without_same : (a b : Bool) (s : MaybeStmt) → a ≡ b → FindsElse as' bs ts us s → else_without n k body a s ≡ else_without n m body b s
      else_without_same a b without e f = refl
      else_without_same a b (otherwise s) e f = λ i. otherwise (in_branch n m body (e i) (without_same s f i))

      withouts_same : (l : Bool) (ss : Stmts) → FindStmts as' bs ts us ss → stmts_without n k body l ss ≡ stmts_without n m body l ss
      withouts_same l done f = refl
      withouts_same l (next s ss) f =
          ap₂ next (ap (in_list n m body l (is_var s)) (without_same s f.0))
          (withouts_same (l || stmt_leaves k s) ss f.1 ∙ ap (λ (b : Bool). stmts_without n m body (l || b) ss) (leaves_same s f.0))

    pub rewritten_same : (l : Bool) (ss : Stmts) → FindStmts as' bs ts us ss → stmts_without n k body l ss ≡ stmts_without n m body l ss
    rewritten_same l ss f = withouts_same l ss f

-- what is rewritten calls what was called
module _ (as' bs : List Action) (ts us : List Table) (n : Flags) (m : Exits) (body : Body) where
  list_finds : (l v : Bool) (s : Stmt) → FindsStmt as' bs ts us s → FindsStmt as' bs ts us (in_list n m body l v s)
  list_finds true false s f = (tt, (f, tt))
  list_finds true true s f = f
  list_finds false v s f = f

  branch_finds : (l : Bool) (s : Stmt) → FindsStmt as' bs ts us s → FindsStmt as' bs ts us (in_branch n m body l s)
  branch_finds true s f = ((tt, (f, tt)), tt)
  branch_finds false s f = f

  exit_finds : (body : Body) → FindsStmt as' bs ts us (exit_in n body)
  exit_finds in_action = (tt, (tt, tt))
  exit_finds in_control = tt

  mutual
    stmt_finds : (s : Stmt) → FindsStmt as' bs ts us s → FindsStmt as' bs ts us (stmt_without n m body s)
    stmt_finds (nothing p) f = tt
    stmt_finds (block p ss) f = stmts_find false ss f
    stmt_finds (var p ty x e) f = tt
    stmt_finds (assign p target e) f = tt
    stmt_finds (choice p e s t) f = (f.0, (branch_finds (test_leaves m e) (stmt_without n m body s) (stmt_finds s f.1.0), else_finds (test_leaves m e) t f.1.1))
    stmt_finds (return_ p) f = tt
    stmt_finds (exit_ p) f = exit_finds body
    stmt_finds (call p callee args) f = f

    else_finds : (l : Bool) (s : MaybeStmt) → FindsElse as' bs ts us s → FindsElse as' bs ts us (else_without n m body l s)
    else_finds l without f = tt
    else_finds l (otherwise s) f = branch_finds l (stmt_without n m body s) (stmt_finds s f)

    pub stmts_find : (l : Bool) (ss : Stmts) → FindStmts as' bs ts us ss → FindStmts as' bs ts us (stmts_without n m body l ss)
    stmts_find l done f = tt
    stmts_find l (next s ss) f = (list_finds l (is_var s) (stmt_without n m body s) (stmt_finds s f.0), stmts_find (l || stmt_leaves m s) ss f.1)
