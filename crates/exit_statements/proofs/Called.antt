-- Calls of actions and applications of tables, with actions that are without exits.
use Rattle.std.proofs.Common.{◌≡◌, ℕ, List, [], ◌∷◌, map, Bool, true, false, ◌||◌, cond, Option, Some, None, refl, sym, ap, ap₂, ◌∙◌, subst}
use Rattle.std.specs.Prelude.{is_none, nat_lt}
use Rattle.std.specs.Option.{option_map}
use Rattle.std.specs.List.{AllByRecursion, list_any}
use Rattle.bit_values.specs.Bits.{Word}
use Rattle.lex_text.specs.Names.{same_text}
use Rattle.p4_tree.specs.Tree.{Expr, Stmt, Stmts, MaybeStmt, nothing, block, var, assign, choice, return_, exit_, call, done, next, without, otherwise}
use Rattle.p4_meaning.specs.Choice.{Entry, fits_keys, rank_of, higher, choice_of}
use Rattle.p4_meaning.specs.Statements.{Flow, Go, Return, Exit, Run, Ended, after, Act, makes, drops, reads, writes, tells, sums, runs, applies, idle, act_of, application, no_calls, done_by, tested_by, tested, meaning_of_stmt, meaning_of_else, meaning_of}
use Rattle.p4_meaning.specs.Actions.{Param, Action, action_named, params_of, args_of, flow_behind, act_if}
use Rattle.p4_meaning.specs.Tables.{Key, Chosen, Table, Tables, table_named, has_ternary, key_words, chosen_runs, apply_if, calls_in}
use Rattle.exit_statements.specs.Without.{in_control, Flags}
use Rattle.exit_statements.specs.Free.{Hides, HidesFlags, IsFreeExpr}
use Rattle.exit_statements.specs.Alike.{Alike, Tell, Ends, Tests, Agrees}
use Rattle.exit_statements.specs.Laws.{Keeps}
use Rattle.exit_statements.specs.Actions.{action_without, stmt_exits, else_exits, stmts_exit, action_exits, table_exits, exits_of, all_but, IsFreeAction, IsFreeTable, IsListed, RunListed, CallsAgree}
use Rattle.exit_statements.proofs.Values.{text_decides, value_alike, ran_same}
use Rattle.exit_statements.proofs.Guards.{went}
use Rattle.exit_statements.proofs.Runs.{or_left, or_right}
use Rattle.exit_statements.proofs.Weaker.{free_expr}
use Rattle.exit_statements.proofs.Acted.{fits_all, action_ends}

-- ---- actions and tables by their names

-- the action of a name, without exits
pub same_action : (left : List ℕ) (returned : List ℕ → List ℕ) (as' : List Action) (x : List ℕ) → action_named (map (action_without left returned) as') x ≡ option_map (action_without left returned) (action_named as' x)
same_action left returned [] x = refl
same_action left returned (a ∷ as') x = ap (λ (o : Option Action). cond (same_text a.name x) (Some (action_without left returned a)) o) (same_action left returned as' x) ∙ go (same_text a.name x) (action_named as' x)
  where
    go : (b : Bool) (o : Option Action) → cond b (Some (action_without left returned a)) (option_map (action_without left returned) o) ≡ option_map (action_without left returned) (cond b (Some a) o)
    go true o = refl
    go false o = refl

-- what holds of all actions holds of the one of a name
action_holds : (P : Action → Type 0) (as' : List Action) (x : List ℕ) (a : Action) → AllByRecursion P as' → action_named as' x ≡ Some a → P a
action_holds P [] x a h is = absurd (cc is)
action_holds P (b ∷ bs) x a h is = go (λ e. action_holds P bs x a h.1 e) (same_text b.name x) is
  where
    some_is : (c d : Action) → Some c ≡ Some d → c ≡ d
    some_is c d e = cc e

    go : (action_named bs x ≡ Some a → P a) → (t : Bool) → cond t (Some b) (action_named bs x) ≡ Some a → P a
    go rest true e = subst P (some_is b a e) h.0
    go rest false e = rest e

table_holds : (P : Table → Type 0) (ts : List Table) (x : List ℕ) (t : Table) → AllByRecursion P ts → table_named ts x ≡ Some t → P t
table_holds P [] x t h is = absurd (cc is)
table_holds P (u ∷ us) x t h is = go (λ e. table_holds P us x t h.1 e) (same_text u.name x) is
  where
    some_is : (c d : Table) → Some c ≡ Some d → c ≡ d
    some_is c d e = cc e

    go : (table_named us x ≡ Some t → P t) → (b : Bool) → cond b (Some u) (table_named us x) ≡ Some t → P t
    go rest true e = subst P (some_is u t e) h.0
    go rest false e = rest e

-- ---- an action that cannot exit

flow_after : (f : Flow) (r : Run) (g : Run → Ended) → flow_behind f ≡ Go → ((r : Run) → flow_behind (g r).1 ≡ Go) → flow_behind (after f r g).1 ≡ Go
flow_after Go r g e h = h r
flow_after Return r g e h = refl
flow_after Exit r g e h = absurd (cc e)

flow_cond : (t : Bool) (x y : Ended) → flow_behind x.1 ≡ Go → flow_behind y.1 ≡ Go → flow_behind (cond t x y).1 ≡ Go
flow_cond true x y h k = h
flow_cond false x y h k = k

no_act : (k : Act) (r : Run) → flow_behind (done_by no_calls k r).1 ≡ Go
no_act (makes x b) r = refl
no_act drops r = refl
no_act (reads x t i) r = refl
no_act (writes x i v) r = refl
no_act (tells x es) r = refl
no_act (sums b e es p) r = refl
no_act (runs x es) r = refl
no_act (applies t) r = refl
no_act idle r = refl

no_tested : (t : Option (List ℕ × Bool)) (e : Expr) (r : Run) → flow_behind (tested_by no_calls t e r).flow ≡ Go
no_tested None e r = refl
no_tested (Some t) e r = refl

mutual
  stmt_ends_so : (s : Stmt) (r : Run) → stmt_exits s ≡ false → flow_behind (meaning_of_stmt no_calls s r).1 ≡ Go
  stmt_ends_so (nothing p) r h = refl
  stmt_ends_so (block p ss) r h = stmts_end_so ss r h
  stmt_ends_so (var p ty x e) r h = refl
  stmt_ends_so (assign p target e) r h = refl
  stmt_ends_so (choice p e s t) r h =
      flow_after (tested no_calls e r).flow (tested no_calls e r).run _ (no_tested (application e) e r)
      (λ q. flow_cond (tested no_calls e r).hit (meaning_of_stmt no_calls s q) (meaning_of_else no_calls t q) (stmt_ends_so s q (or_left (stmt_exits s) _ h)) (else_ends_so t q (or_right (stmt_exits s) _ h)))
  stmt_ends_so (return_ p) r h = refl
  stmt_ends_so (exit_ p) r h = absurd (cc h)
  stmt_ends_so (call p callee args) r h = no_act (act_of callee args) r

  else_ends_so : (s : MaybeStmt) (r : Run) → else_exits s ≡ false → flow_behind (meaning_of_else no_calls s r).1 ≡ Go
  else_ends_so without r h = refl
  else_ends_so (otherwise s) r h = stmt_ends_so s r h

  stmts_end_so : (ss : Stmts) (r : Run) → stmts_exit ss ≡ false → flow_behind (meaning_of no_calls ss r).1 ≡ Go
  stmts_end_so done r h = refl
  stmts_end_so (next s ss) r h =
      flow_after (meaning_of_stmt no_calls s r).1 (meaning_of_stmt no_calls s r).0 (meaning_of no_calls ss) (stmt_ends_so s r (or_left (stmt_exits s) _ h)) (λ q. stmts_end_so ss q (or_right (stmt_exits s) _ h))

act_goes : (o : Option Action) (ws : List Word) (r : Run) → action_exits o ≡ false → (act_if o ws r).1 ≡ Go
act_goes None ws r h = refl
act_goes (Some a) ws r h = stmts_end_so a.body _ h

-- ---- what is chosen

-- what holds of all entries holds of the one that is chosen
pub chosen_holds : (P : Entry → Type 0) (t : Bool) (es : List Entry) (ks : List Word) (e : Entry) → AllByRecursion P es → choice_of t es ks ≡ Some e → P e
chosen_holds P t [] ks e h is = absurd (cc is)
chosen_holds P t (x ∷ xs) ks e h is = go (λ f at. chosen_holds P t xs ks f h.1 at) (fits_keys x.keys ks) (choice_of t xs ks) refl is
  where
    some_is : (c d : Entry) → Some c ≡ Some d → c ≡ d
    some_is c d k = cc k

    pick : (b : Bool) (f : Entry) → P f → P (cond b f x)
    pick true f p = p
    pick false f p = h.0

    go : ((f : Entry) → choice_of t xs ks ≡ Some f → P f) → (b : Bool) (o : Option Entry) → choice_of t xs ks ≡ o → cond b (Some (higher t x o)) o ≡ Some e → P e
    go rest true None at k = subst P (some_is x e k) h.0
    go rest true (Some f) at k = subst P (some_is (higher t x (Some f)) e k) (pick (nat_lt (rank_of t x) (rank_of t f)) f (rest f at))
    go rest false None at k = absurd (cc k)
    go rest false (Some f) at k = rest e (at ∙ k)

-- an action that a table may run cannot exit, where none of its list can
among : (as' : List Action) (xs : List (List ℕ)) (x : List ℕ) → list_any (λ y. action_exits (action_named as' y)) xs ≡ false → list_any (same_text x) xs ≡ true → action_exits (action_named as' x) ≡ false
among as' [] x none one = absurd (cc one)
among as' (y ∷ ys) x none one = go (λ h. among as' ys x (or_right (action_exits (action_named as' y)) _ none) h) (same_text x y) refl one
  where
    go : (list_any (same_text x) ys ≡ true → action_exits (action_named as' x) ≡ false) → (b : Bool) → same_text x y ≡ b → (b || list_any (same_text x) ys) ≡ true → action_exits (action_named as' x) ≡ false
    go rest true is h = ap (λ z. action_exits (action_named as' z)) ((text_decides x y).0 is) ∙ or_left (action_exits (action_named as' y)) _ none
    go rest false is h = rest h

listed_goes : (as' : List Action) (t : Table) (x : List ℕ) → list_any (λ y. action_exits (action_named as' y)) t.actions ≡ false → IsListed as' t x → action_exits (action_named as' x) ≡ false
listed_goes as' t x none one = go (list_any (same_text x) t.actions) refl one
  where
    absent : (o : Option Action) → is_none o ≡ true → action_exits o ≡ false
    absent None h = refl
    absent (Some a) h = absurd (cc h)

    go : (b : Bool) → list_any (same_text x) t.actions ≡ b → (b || is_none (action_named as' x)) ≡ true → action_exits (action_named as' x) ≡ false
    go true is h = among as' t.actions x none is
    go false is h = absent (action_named as' x) h

chosen_goes : (as' : List Action) (t : Table) (d : Chosen) (o : Option Entry) (r : Run) → list_any (λ y. action_exits (action_named as' y)) t.actions ≡ false → IsListed as' t d.action → ((e : Entry) → o ≡ Some e → IsListed as' t e.action) → (chosen_runs as' d o r).flow ≡ Go
chosen_goes as' t d None r none dl el = act_goes (action_named as' d.action) d.args r (listed_goes as' t d.action none dl)
chosen_goes as' t d (Some e) r none dl el = act_goes (action_named as' e.action) e.args r (listed_goes as' t e.action none (el e refl))

table_goes : (as' : List Action) (ts : List Table) (held : Tables) (x : List ℕ) (o : Option Table) (r : Run) → table_named ts x ≡ o → RunListed as' ts held → table_exits as' o ≡ false → (apply_if as' o (held x) r).flow ≡ Go
table_goes as' ts held x None r at listed none = refl
table_goes as' ts held x (Some t) r at listed none =
    let l = listed x t at in
    chosen_goes as' t (held x).default _ r none l.default (λ e is. chosen_holds (λ f. IsListed as' t f.action) (has_ternary t.keys) (held x).listed (key_words t.keys r.store) e l.entries is)

-- ---- the law

module _ (n : Flags) (returned : List ℕ → List ℕ) (own seen : List ℕ → Bool) (as' : List Action) (ts : List Table) (held : Tables) (actions : AllByRecursion (IsFreeAction n.left returned own seen) as') (tables : AllByRecursion (IsFreeTable seen) ts) (listed : RunListed as' ts held) where
  abbrev bs : List Action
  bs = map (action_without n.left returned) as'

  args_alike : (hides : Hides) (a b : Run) → Alike hides a b → (ps : List Param) (es : List Expr) → AllByRecursion (IsFreeExpr hides) es → args_of ps es b.store ≡ args_of ps es a.store
  args_alike hides a b h [] es o = refl
  args_alike hides a b h (p ∷ ps) [] o = refl
  args_alike hides a b h (p ∷ ps) (e ∷ es) o = ap₂ (λ (w : Word) (ws : List Word). w ∷ ws) (value_alike hides a b h e p.width o.0) (args_alike hides a b h ps es o.1)

  keys_alike : (hides : Hides) → HidesFlags n hides → Keeps own seen hides → (a b : Run) → Alike hides a b → (ks : List Key) → AllByRecursion (λ k. IsFreeExpr (all_but seen) k.value) ks → key_words ks b.store ≡ key_words ks a.store
  keys_alike hides f k a b h [] o = refl
  keys_alike hides f k a b h (x ∷ xs) o = ap₂ (λ (w : Word) (ws : List Word). w ∷ ws) (value_alike hides a b h x.value 0 (free_expr own (all_but seen) hides x.value (fits_all n own seen hides f k) o.0)) (keys_alike hides f k a b h xs o.1)

  same_params : (o : Option Action) → params_of (option_map (action_without n.left returned) o) ≡ params_of o
  same_params None = refl
  same_params (Some a) = refl

  if_ends : (hides : Hides) → HidesFlags n hides → Keeps own seen hides → (o : Option Action) → ((a : Action) → o ≡ Some a → IsFreeAction n.left returned own seen a) → (ws : List Word) (a b : Run) → Alike hides a b → Tell n in_control Go b → Ends n in_control hides hides (act_if o ws a) (act_if (option_map (action_without n.left returned) o) ws b)
  if_ends hides f k None free ws a b h g = went n in_control hides hides b a b (ran_same n hides a b h) g
  if_ends hides f k (Some x) free ws a b h g = action_ends n returned own seen x (free x refl) hides f k ws a b h g

  named_ends : (hides : Hides) → HidesFlags n hides → Keeps own seen hides → (x : List ℕ) (ws : List Word) (a b : Run) → Alike hides a b → Tell n in_control Go b → Ends n in_control hides hides (act_if (action_named as' x) ws a) (act_if (action_named bs x) ws b)
  named_ends hides f k x ws a b h g =
      subst (λ o. Ends n in_control hides hides (act_if (action_named as' x) ws a) (act_if o ws b)) (sym (same_action n.left returned as' x))
      (if_ends hides f k (action_named as' x) (λ y is. action_holds (IsFreeAction n.left returned own seen) as' x y actions is) ws a b h g)

  chosen_tests : (hides : Hides) → HidesFlags n hides → Keeps own seen hides → (d : Chosen) (o : Option Entry) (a b : Run) → Alike hides a b → Tell n in_control Go b → Tests n in_control hides (chosen_runs as' d o a) (chosen_runs bs d o b)
  chosen_tests hides f k d None a b h g = record { ends = named_ends hides f k d.action d.args a b h g; hit = refl }
  chosen_tests hides f k d (Some e) a b h g = record { ends = named_ends hides f k e.action e.args a b h g; hit = refl }

  apply_tests : (hides : Hides) → HidesFlags n hides → Keeps own seen hides → (x : List ℕ) (o : Option Table) → table_named ts x ≡ o → (a b : Run) → Alike hides a b → Tell n in_control Go b → Tests n in_control hides (apply_if as' o (held x) a) (apply_if bs o (held x) b)
  apply_tests hides f k x None at a b h g = record { ends = went n in_control hides hides b a b (ran_same n hides a b h) g; hit = refl }
  apply_tests hides f k x (Some t) at a b h g =
      subst (λ ws. Tests n in_control hides (chosen_runs as' (held x).default (choice_of (has_ternary t.keys) (held x).listed (key_words t.keys a.store)) a) (chosen_runs bs (held x).default (choice_of (has_ternary t.keys) (held x).listed ws) b))
      (sym (keys_alike hides f k a b h t.keys (table_holds (IsFreeTable seen) ts x t tables at)))
      (chosen_tests hides f k (held x).default (choice_of (has_ternary t.keys) (held x).listed (key_words t.keys a.store)) a b h g)

  call_ends : (hides : Hides) → HidesFlags n hides → Keeps own seen hides → (x : List ℕ) (es : List Expr) (a b : Run) → AllByRecursion (IsFreeExpr hides) es → Alike hides a b → Tell n in_control Go b
      → Ends n in_control hides hides (act_if (action_named as' x) (args_of (params_of (action_named as' x)) es a.store) a) (act_if (action_named bs x) (args_of (params_of (action_named bs x)) es b.store) b)
  call_ends hides f k x es a b o h g =
      let params : params_of (action_named bs x) ≡ params_of (action_named as' x) = ap params_of (same_action n.left returned as' x) ∙ same_params (action_named as' x) in
      let args : args_of (params_of (action_named bs x)) es b.store ≡ args_of (params_of (action_named as' x)) es a.store = ap (λ ps. args_of ps es b.store) params ∙ args_alike hides a b h (params_of (action_named as' x)) es o in
      subst (λ ws. Ends n in_control hides hides (act_if (action_named as' x) (args_of (params_of (action_named as' x)) es a.store) a) (act_if (action_named bs x) ws b)) (sym args)
      (named_ends hides f k x (args_of (params_of (action_named as' x)) es a.store) a b h g)

  agreed : Agrees n in_control (Keeps own seen) (exits_of as' ts) (calls_in as' ts held) (calls_in bs ts held)
  agreed =
      record {
        call = λ hides f k x es a b o h g. call_ends hides f k x es a b o h g;
        apply = λ hides f k t a b h g. apply_tests hides f k t (table_named ts t) refl a b h g;
        call_stays = λ x es r none. act_goes (action_named as' x) (args_of (params_of (action_named as' x)) es r.store) r none;
        apply_stays = λ t r none. table_goes as' ts held t (table_named ts t) r refl listed none;
      }

pub calls_agree : CallsAgree
calls_agree n returned own seen as' ts held actions tables listed = agreed n returned own seen as' ts held actions tables listed
