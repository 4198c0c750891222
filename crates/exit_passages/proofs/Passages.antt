-- A program without exits does what the given one does.
use Rattle.std.proofs.Common.{◌≡◌, ℕ, List, [], ◌∷◌, map, Bool, true, false, ◌||◌, Option, Some, None, is_none, refl, sym, ap, ◌∙◌, subst}
use Rattle.std.specs.List.{AllByRecursion, list_any}
use Rattle.std.specs.Option.{option_map}
use Rattle.lex_text.specs.Names.{same_text}
use Rattle.p4_tree.specs.Tree.{Stmt, Stmts, MaybeStmt, nothing, block, var, assign, choice, return_, exit_, call, done, next, without, otherwise, and_then, Program}
use Rattle.p4_meaning.specs.Store.{Store}
use Rattle.p4_meaning.specs.Statements.{Act, makes, drops, reads, writes, tells, sums, runs, applies, idle, act_of, application, Run, Ended, meaning_of}
use Rattle.p4_meaning.specs.Choice.{Entry}
use Rattle.p4_meaning.specs.Actions.{Action, action_named}
use Rattle.p4_meaning.specs.Tables.{Table, Tables, table_named, calls_in}
use Rattle.p4_meaning.specs.Parts.{Body, Parts, whole, body_in, parts_of}
use Rattle.p4_meaning.specs.Pass.{entered}
use Rattle.exit_statements.specs.Without.{in_control, stmts_without}
use Rattle.exit_statements.specs.Actions.{exits_of, IsListed, RunListed}
use Rattle.exit_statements.specs.WrittenActions.{returned_in}
use Rattle.exit_statements.specs.Controls.{with_flag, body_without, run_of, run_without, AreLong, Begins, LeaveAlike}
use Rattle.exit_statements.proofs.Controlled.{enters_agree}
use Rattle.exit_statements.proofs.Sent.{leaves_agree}
use Rattle.exit_programs.specs.Programs.{flags}
use Rattle.p4_typing_laws.specs.Plain.{has_point}
use Rattle.exit_programs.specs.Calls.{FindsAction, FindsListed, FindsTable, FindsAct, FindsApplied, FindsStmt, FindsElse, FindStmts}
use Rattle.exit_programs.specs.Owned.{all_actions, all_tables, own_actions, own_tables, OwnsWhatItUses, ComputeIsPlain}
use Rattle.exit_programs.specs.Without.{leaves_at, body_at}
use Rattle.exit_programs.proofs.Controls.{bare, named_mapped}
use Rattle.exit_passages.proofs.Called.{Within, all_same, rewritten_same, stmts_find}

-- ---- statements that find what they call

module _ (as' bs : List Action) (ts us : List Table) where
  split : (a b : Stmts) → FindStmts as' bs ts us (and_then a b) → FindStmts as' bs ts us a × FindStmts as' bs ts us b
  split done b f = (tt, f)
  split (next s ss) b f = (let more = split ss b f.1 in ((f.0, more.0), more.1))

  joined : (a b : Stmts) → FindStmts as' bs ts us a → FindStmts as' bs ts us b → FindStmts as' bs ts us (and_then a b)
  joined done b f g = g
  joined (next s ss) b f g = (f.0, joined ss b f.1 g)

  flagged : (l : Bool) (x : List ℕ) (ss : Stmts) → FindStmts as' bs ts us ss → FindStmts as' bs ts us (with_flag l x ss)
  flagged true x ss f = (tt, f)
  flagged false x ss f = f

  -- without exits
  abbrev new : List Action
  new = map bare as'

  abbrev few : List Action
  few = map bare bs

  action_finds : (x : List ℕ) → FindsAction as' bs ts us x → FindsAction (map bare as') (map bare bs) ts us x
  action_finds x e = named_mapped bs x ∙ (ap (option_map bare) e ∙ sym (named_mapped as' x))

  list_finds : (xs : List (List ℕ)) → AllByRecursion (FindsAction as' bs ts us) xs → AllByRecursion (FindsAction (map bare as') (map bare bs) ts us) xs
  list_finds [] f = tt
  list_finds (x ∷ xs) f = (action_finds x f.0, list_finds xs f.1)

  listed_finds : (o : Option Table) → FindsListed as' bs ts us o → FindsListed (map bare as') (map bare bs) ts us o
  listed_finds None f = tt
  listed_finds (Some t) f = list_finds t.actions f

  table_finds : (x : List ℕ) → FindsTable as' bs ts us x → FindsTable (map bare as') (map bare bs) ts us x
  table_finds x f = record { same = f.same; listed = listed_finds (table_named ts x) f.listed }

  act_finds : (a : Act) → FindsAct as' bs ts us a → FindsAct (map bare as') (map bare bs) ts us a
  act_finds (makes h b) f = tt
  act_finds drops f = tt
  act_finds (reads x t i) f = tt
  act_finds (writes x i v) f = tt
  act_finds (tells r es) f = tt
  act_finds (sums b c es g) f = tt
  act_finds (runs x es) f = action_finds x f
  act_finds (applies t) f = table_finds t f
  act_finds idle f = tt

  applied_finds : (o : Option (List ℕ × Bool)) → FindsApplied as' bs ts us o → FindsApplied (map bare as') (map bare bs) ts us o
  applied_finds None f = tt
  applied_finds (Some t) f = table_finds t.0 f

  mutual
    stmt_finds : (s : Stmt) → FindsStmt as' bs ts us s → FindsStmt (map bare as') (map bare bs) ts us s
    stmt_finds (nothing p) f = tt
    stmt_finds (block p ss) f = all_find ss f
    stmt_finds (var p ty x e) f = tt
    stmt_finds (assign p target e) f = tt
    stmt_finds (choice p e s t) f = (applied_finds (application e) f.0, (stmt_finds s f.1.0, else_finds t f.1.1))
    stmt_finds (return_ p) f = tt
    stmt_finds (exit_ p) f = tt
    stmt_finds (call p callee args) f = act_finds (act_of callee args) f

    else_finds : (s : MaybeStmt) → FindsElse as' bs ts us s → FindsElse (map bare as') (map bare bs) ts us s
    else_finds without f = tt
    else_finds (otherwise s) f = stmt_finds s f

    all_find : (ss : Stmts) → FindStmts as' bs ts us ss → FindStmts (map bare as') (map bare bs) ts us ss
    all_find done f = tt
    all_find (next s ss) f = (stmt_finds s f.0, all_find ss f.1)

-- ---- actions of lists

none_mapped : (o : Option Action) → is_none (option_map bare o) ≡ is_none o
none_mapped None = refl
none_mapped (Some a) = refl

still_none : (as' : List Action) (x : List ℕ) → is_none (action_named (map bare as') x) ≡ is_none (action_named as' x)
still_none as' x = ap is_none (named_mapped as' x) ∙ none_mapped (action_named as' x)

list_mapped : (as' : List Action) (t : Table) (x : List ℕ) → IsListed as' t x → IsListed (map bare as') t x
list_mapped as' t x h = ap (λ (b : Bool). list_any (same_text x) t.actions || b) (still_none as' x) ∙ h

entries_mapped : (as' : List Action) (t : Table) (es : List Entry) → AllByRecursion (λ f. IsListed as' t f.action) es → AllByRecursion (λ f. IsListed (map bare as') t f.action) es
entries_mapped as' t [] k = tt
entries_mapped as' t (f ∷ es) k = (list_mapped as' t f.action k.0, entries_mapped as' t es k.1)

run_mapped : (as' : List Action) (ts : List Table) (held : Tables) → RunListed as' ts held → RunListed (map bare as') ts held
run_mapped as' ts held h x t e = (let k = h x t e in record { entries = entries_mapped as' t (held x).listed k.entries; default = list_mapped as' t (held x).default.action k.default })

is_no : (o : Option Action) → is_none o ≡ true → o ≡ None
is_no None e = refl
is_no (Some a) e = absurd (cc e)

list_within : (as' bs : List Action) → Within as' bs → (t : Table) (x : List ℕ) → IsListed as' t x → IsListed bs t x
list_within as' bs within t x h = go (list_any (same_text x) t.actions) h
  where
    go : (b : Bool) → (b || is_none (action_named as' x)) ≡ true → (b || is_none (action_named bs x)) ≡ true
    go true k = refl
    go false k = ap is_none (within x (is_no (action_named as' x) k))

entries_within : (as' bs : List Action) → Within as' bs → (t : Table) (es : List Entry) → AllByRecursion (λ f. IsListed as' t f.action) es → AllByRecursion (λ f. IsListed bs t f.action) es
entries_within as' bs within t [] k = tt
entries_within as' bs within t (f ∷ es) k = (list_within as' bs within t f.action k.0, entries_within as' bs within t es k.1)

mapped_within : (as' bs : List Action) → Within as' bs → Within (map bare as') (map bare bs)
mapped_within as' bs within x e =
    named_mapped bs x ∙ ap (option_map bare) (within x (is_no (action_named as' x) (sym (still_none as' x) ∙ ap is_none e)))

-- ---- a control

module _ (p : Program) (n : ℕ) (owns : OwnsWhatItUses p n) (held : Tables) (listed : RunListed (all_actions p) (all_tables p) held) where
  abbrev as' : List Action
  as' = all_actions p

  abbrev bs : List Action
  bs = own_actions p n

  abbrev ts : List Table
  ts = all_tables p

  abbrev us : List Table
  us = own_tables p n

  abbrev b : Body
  b = body_in 0 1 2 p n

  abbrev fl : Bool
  fl = leaves_at p n

  own_listed : RunListed (own_actions p n) (own_tables p n) held
  own_listed x t e =
      (let k = listed x t (owns.tables_within x t e) in record { entries = entries_within as' bs owns.actions_within t (held x).listed k.entries; default = list_within as' bs owns.actions_within t (held x).default.action k.default })

  given_same : (r : Run) → run_of bs us held b r ≡ run_of as' ts held b r
  given_same r = ap (λ (e : Ended). e.0) (all_same as' bs ts us held owns.actions_within listed (whole b) r owns.found)

  parts_found : FindStmts as' bs ts us b.locals × FindStmts as' bs ts us b.body
  parts_found = split as' bs ts us b.locals b.body owns.found

  bodies : body_without fl flags bs us b ≡ body_without fl flags as' ts b
  bodies = ap (λ (ss : Stmts). record { locals = with_flag fl flags.left b.locals; body = ss }) (rewritten_same as' bs ts us flags in_control false b.body parts_found.1)

  new_found : FindStmts (map bare as') (map bare bs) ts us (whole (body_at p n))
  new_found =
      all_find as' bs ts us (whole (body_at p n))
      (joined as' bs ts us (with_flag fl flags.left b.locals) (stmts_without flags (exits_of as' ts) in_control false b.body) (flagged as' bs ts us fl flags.left b.locals parts_found.0) (stmts_find as' bs ts us flags (exits_of as' ts) in_control false b.body parts_found.1))

  new_run : Run → Run
  new_run r = (meaning_of (calls_in (map bare (all_actions p)) (all_tables p) held) (whole (body_at p n)) r).0

  new_same : (r : Run) → run_without fl flags (returned_in flags) bs us held b r ≡ (meaning_of (calls_in (map bare (all_actions p)) (all_tables p) held) (whole (body_at p n)) r).0
  new_same r =
      ap (λ (k : Body). (meaning_of (calls_in (map bare bs) us held) (whole k) r).0) bodies
      ∙ ap (λ (e : Ended). e.0) (all_same (map bare as') (map bare bs) ts us held (mapped_within as' bs owns.actions_within) (run_mapped as' ts held listed) (whole (body_at p n)) r new_found)

  -- the parts with what is its own alone
  abbrev alone : Parts
  alone = record (parts_of p) { actions = own_actions p n; tables = own_tables p n }

  pub enter_same : AreLong (parts_of p).headers → (before : Store) (rest : List ℕ) (r : Run) → Begins fl flags r.store
      → entered (parts_of p) before rest (meaning_of (calls_in (map bare (all_actions p)) (all_tables p) held) (whole (body_at p n)) r).0 ≡ entered (parts_of p) before rest (run_of (all_actions p) (all_tables p) held (body_in 0 1 2 p n) r)
  enter_same long before rest r begins =
      ap (λ (q : Run). entered (parts_of p) before rest q) (sym (new_same r))
      ∙ (enters_agree fl flags (returned_in flags) has_point alone b held owns.free own_listed long before rest r begins
      ∙ ap (λ (q : Run). entered (parts_of p) before rest q) (given_same r))

  pub leave_alike : AreLong (parts_of p).headers → ComputeIsPlain p → (rest : List ℕ) (r : Run) → Begins fl flags r.store
      → LeaveAlike (parts_of p) rest (run_of (all_actions p) (all_tables p) held (body_in 0 1 2 p n) r) (meaning_of (calls_in (map bare (all_actions p)) (all_tables p) held) (whole (body_at p n)) r).0
  leave_alike long computes rest r begins =
      subst (λ (x : Run). LeaveAlike (parts_of p) rest x (meaning_of (calls_in (map bare (all_actions p)) (all_tables p) held) (whole (body_at p n)) r).0) (given_same r)
      (subst (λ (x : Run). LeaveAlike (parts_of p) rest (run_of bs us held b r) x) (new_same r)
      (converted (leaves_agree fl flags (returned_in flags) has_point alone b held owns.free own_listed long computes rest r begins)))
    where
      converted : {x y : Run} → LeaveAlike (record (parts_of p) { actions = own_actions p n; tables = own_tables p n }) rest x y → LeaveAlike (parts_of p) rest x y
      converted k = record { registers = k.registers; digests = k.digests; sent_same = k.sent_same; ends = k.ends }
