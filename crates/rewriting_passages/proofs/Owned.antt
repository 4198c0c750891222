-- The actions and tables of a control do the same in each run whose store fits the control, and no other are called in it.
use Rattle.std.proofs.Common.{◌≡◌, ◌⊎◌, inl, inr, codes, ℕ, List, [], ◌∷◌, ◌++◌, map, Bool, true, false, not, cond, ◌||◌, Option, Some, None, refl, sym, ap, ◌∙◌, subst}
use Rattle.std.specs.List.{AllByRecursion}
use Rattle.lex_text.specs.Names.{same_text}
use Rattle.rule_tests.specs.Tests.{IsFine}
use Rattle.p4_tree.specs.Tree as tree
use Rattle.p4_tree.specs.Tree.{Expr, Stmt, nothing, block, var, assign, choice, return_, exit_, call, Local, local_action, local_table, local_register, local_const, local_var}
use Rattle.p4_meaning.specs.Statements.{Run}
use Rattle.p4_meaning.specs.Choice.{Entry}
use Rattle.p4_meaning.specs.Scope as meaning
use Rattle.p4_meaning.specs.Scope.{is_among, full, full_name, own_names}
use Rattle.p4_meaning.specs.Under.{behind_local, behind_locals}
use Rattle.p4_meaning.specs.Actions.{Action, action_under, actions_in, action_named, params_of, act_if}
use Rattle.p4_meaning.specs.Tables.{Table, Tables, default_under, table_under, tables_in, table_named, calls_in}
use Rattle.p4_meaning.specs.Parts.{Parts}
use Rattle.p4_meaning.specs.Laws.{RunsListed}
use Rattle.p4_scopes.specs.Scopes.{Stands, missing, typed, held as holding, cells, act, rows, state, function, algorithm, other, is_missing, Scope, What, value, behind, declare, action, table, core_name}
use Rattle.p4_scopes.specs.Scopes as scope
use Rattle.p4_scopes.specs.Uses.{is_action}
use Rattle.p4_scopes.specs.declared.kind.Kind.{Kind}
use Rattle.p4_scopes.specs.declared.thing.Access.TheVariants.{Writable, Constant}
use Rattle.p4_statement_rules.specs.Statements.{after, stmt_tests}
use Rattle.p4_statement_rules.specs.declared.rule.Part.{Part}
use Rattle.p4_declaration_rules.specs.Digests.{most_of, most_of_table}
use Rattle.p4_declaration_rules.specs.Tables.{listed_tests, default_args, default_tests}
use Rattle.p4_declaration_rules.specs.Controls.{action_part, local_tests, after_local, locals_tests, after_locals}
use Rattle.p4_typing_laws.specs.Plain.{IsPlain, IsPlainLocal}
use Rattle.p4_typing_laws.proofs.Fine.{twice_not}
use Rattle.p4_typing_laws.proofs.CallCounts.{text_is, text_same, IsQuiet}
use Rattle.p4_typing_laws.proofs.FullNames.{full_apart, among_head, Knows, known_full, knows_rest, named_other, table_other}
use Rattle.p4_typing_laws.proofs.CountedNames.{was_missing, Calls, IsNoAction, quiet_calls, action_calls, table_calls}
use Rattle.p4_typing_laws.proofs.CountedLocals.{IsNew}
use Rattle.passage_stores.specs.SeenStores.{FitsControl, LocalSees, LocalsSee}
use Rattle.rewriting_laws.specs.Standing.{MayStandFor}
use Rattle.rewritten_programs.specs.Rewritten.{ActionRewritten, TableRewritten, LocalRewritten, in_action, in_table, local_register_stays, local_const_stays, in_local_var}
use Rattle.rewriting_meaning.specs.Sights.{DoSame, ActionsDoSame, RowsAgree, TablesAgree}
use Rattle.rewriting_meaning.proofs.Acts.{name_stays, params_stay, acts_same, keys_stay, programs_calls}
use Rattle.rewriting_passages.proofs.Scopes.{LocalsRewritten}
use Rattle.rewriting_passages.proofs.Found.{Lists, FindSame}

broken : {A : Type 0} → true ≡ false → A
broken h = absurd (cc)

-- two actions that no name finds do the same
none_same : (as' bs : List Action) (x : List ℕ) → action_named as' x ≡ None → action_named bs x ≡ None → (r : Run) → ActionsDoSame as' bs x r
none_same as' bs x h k r =
    record { params = ap params_of k ∙ sym (ap params_of h); acts = λ ws. ap (λ (o : Option Action). act_if o ws r) k ∙ sym (ap (λ (o : Option Action). act_if o ws r) h) }

named_first : (a : Action) (rest : List Action) (y : List ℕ) → a.name ≡ y → action_named (a ∷ rest) y ≡ Some a
named_first a rest y e = ap (λ (b : Bool). cond b (Some a) (action_named rest y)) (text_same a.name y e)

table_first : (t : Table) (rest : List Table) (y : List ℕ) → t.name ≡ y → table_named (t ∷ rest) y ≡ Some t
table_first t rest y e = ap (λ (b : Bool). cond b (Some t) (table_named rest y)) (text_same t.name y e)

-- S, SD: in sight in the control's body. C, own: its name, and the names of what it declares and calls
module _ (pt : Parts) (S : Scope) (SD : meaning.Scope) (all : Lists) (C : List ℕ) (own : List (List ℕ)) (new : IsNew own) (held : Tables) (listed : (x : List ℕ) → RunsListed (table_named all.tables x) (held x))
    (none : action_named all.actions (codes "NoAction") ≡ None) (none_after : action_named all.others (codes "NoAction") ≡ None)
  where
    -- an action and a table of the control
    abbrev pub OwnAction : List ℕ → ℕ → Type 0
    OwnAction x m = (is_among own x ≡ true) × ((r : Run) → FitsControl pt S SD r → ActionsDoSame all.actions all.others (full C x) r)

    abbrev pub OwnTable : List ℕ → ℕ → Type 0
    OwnTable x m =
        (is_among own x ≡ true)
        × ((r : Run) → FitsControl pt S SD r → TablesAgree all.actions all.others (table_named all.tables (full C x)) (table_named all.other_tables (full C x)) (held (full C x)) r)

    -- ---- what is in sight

    module _ (sd : meaning.Scope) (owns : sd.own ≡ own) (control : sd.control ≡ C) (s : Scope) (calls : Calls OwnAction OwnTable s) (r : Run) (fits : FitsControl pt S SD r) where
      full_own : (x : List ℕ) → is_among own x ≡ true → full_name sd x ≡ full C x
      full_own x h = ap (λ (o : List (List ℕ)). cond (is_among o x) (full sd.control x) x) owns ∙ ap (λ (b : Bool). cond b (full sd.control x) x) h ∙ ap (λ (d : List ℕ). full d x) control

      full_core : (x : List ℕ) → is_missing (core_name x) ≡ false → full_name sd x ≡ x
      full_core x h = ap (λ (o : List (List ℕ)). cond (is_among o x) (full sd.control x) x) owns ∙ ap (λ (b : Bool). cond b (full sd.control x) x) (new.apart x h)

      abbrev Same : List ℕ → Type 0
      Same y = ActionsDoSame all.actions all.others y r

      pub action_same : (x : List ℕ) (ks : List Kind) (m : ℕ) → s (x ∷ []) ≡ act ks m → Same (full_name sd x)
      action_same x ks m e = go (calls.actions x ks m e)
        where
          go : IsNoAction x m ⊎ OwnAction x m → Same (full_name sd x)
          go (inl h) = subst Same (sym (ap (full_name sd) h.0 ∙ full_core (codes "NoAction") refl)) (none_same all.actions all.others (codes "NoAction") none none_after r)
          go (inr h) = subst Same (sym (full_own x h.0)) (h.1 r fits)

      pub table_same : (x : List ℕ) (m : ℕ) → s (x ∷ []) ≡ rows m → TablesAgree all.actions all.others (table_named all.tables (full_name sd x)) (table_named all.other_tables (full_name sd x)) (held (full_name sd x)) r
      table_same x m e =
          (let h = calls.tables x m e in
          subst (λ (y : List ℕ). TablesAgree all.actions all.others (table_named all.tables y) (table_named all.other_tables y) (held y) r) (sym (full_own x h.0)) (h.1 r fits))

      -- ---- the actions of a table

      action_there : (x : List ℕ) (at : Stands) → s (x ∷ []) ≡ at → is_missing at ≡ false → not (is_action at) ≡ false → Same (full_name sd x)
      action_there x missing e h k = broken h
      action_there x (typed b t) e h k = broken k
      action_there x (holding a t) e h k = broken k
      action_there x (cells j) e h k = broken k
      action_there x (act ks m) e h k = action_same x ks m e
      action_there x (rows m) e h k = broken k
      action_there x state e h k = broken k
      action_there x (function g) e h k = broken k
      action_there x algorithm e h k = broken k
      action_there x other e h k = broken k

      among_listed : (p : ℕ) (xs : List (List ℕ)) → IsFine (listed_tests p s xs) → (y : List ℕ) → is_among (map (full_name sd) xs) y ≡ true → Same y
      among_listed p [] f y e = broken (sym e)
      among_listed p (x ∷ xs) f y e = go (same_text (full_name sd x) y) refl e (among_listed p xs f.1 y)
        where
          go : (b : Bool) → same_text (full_name sd x) y ≡ b → (b || is_among (map (full_name sd) xs) y) ≡ true → (is_among (map (full_name sd) xs) y ≡ true → Same y) → Same y
          go true i j more = subst Same (text_is (full_name sd x) y i) (action_there x (s (x ∷ [])) refl f.0.0 f.0.1)
          go false i j more = more j

      default_there : (p : ℕ) (x : List ℕ) (es : List Expr) (at : Stands) → s (x ∷ []) ≡ at → IsFine (default_args p s at es) → Same (full_name sd x)
      default_there p x es missing e f = broken f
      default_there p x es (typed b t) e f = broken f
      default_there p x es (holding a t) e f = broken f
      default_there p x es (cells j) e f = broken f
      default_there p x es (act ks m) e f = action_same x ks m e
      default_there p x es (rows m) e f = broken f
      default_there p x es state e f = broken f
      default_there p x es (function g) e f = broken f
      default_there p x es algorithm e f = broken f
      default_there p x es other e f = broken f

      default_same : (p : ℕ) (xs : List (List ℕ)) (d : Option (List ℕ × List Expr)) → IsFine (default_tests p s xs d) → Same (default_under sd all.actions d).action
      default_same p xs None f = none_same all.actions all.others (codes "NoAction") none none_after r
      default_same p xs (Some d) f = default_there p d.0 d.1 (s (d.0 ∷ [])) refl f.1

      runs_same : (p : ℕ) (t : tree.Table) → IsFine (listed_tests p s t.actions) → IsFine (default_tests p s t.actions t.default) → (y : List ℕ) → is_among ((default_under sd all.actions t.default).action ∷ map (full_name sd) t.actions) y ≡ true → Same y
      runs_same p t f g y e = go (same_text (default_under sd all.actions t.default).action y) refl e
        where
          go : (b : Bool) → same_text (default_under sd all.actions t.default).action y ≡ b → (b || is_among (map (full_name sd) t.actions) y) ≡ true → Same y
          go true i j = subst Same (text_is (default_under sd all.actions t.default).action y i) (default_same p t.actions t.default g)
          go false i j = among_listed p t.actions f y j

      entries_same : (p : ℕ) (t : tree.Table) → IsFine (listed_tests p s t.actions) → IsFine (default_tests p s t.actions t.default) → (es : List Entry)
          → AllByRecursion (λ e. is_among ((default_under sd all.actions t.default).action ∷ map (full_name sd) t.actions) e.action ≡ true) es → AllByRecursion (λ e. Same e.action) es
      entries_same p t f g [] h = tt
      entries_same p t f g (e ∷ es) h = (runs_same p t f g e.action h.0, entries_same p t f g es h.1)

    -- ---- along the declarations

    -- the lists of declarations that are left, and of what is declared behind the control
    module _ (acts bcts : List Action) (tabs ubs : List Table) where
      abbrev lists_left : meaning.Scope → (ls ms : List Local) → Lists
      lists_left sd ls ms =
          record { actions = actions_in sd ls ++ acts; others = actions_in sd ms ++ bcts; tables = tables_in sd all.actions ls ++ tabs; other_tables = tables_in sd all.others ms ++ ubs }

      -- what is known in front of declarations
      pub record IsBefore (s : Scope) (sd : meaning.Scope) (ls ms : List Local) : Type 0 where
        pub knows : Knows C sd ls
        pub owns : sd.own ≡ own
        pub calls : Calls OwnAction OwnTable s
        pub find : (x : List ℕ) → IsPlain x → is_missing (s (x ∷ [])) ≡ true → FindSame all (lists_left sd ls ms) (full C x)

      own_here : (sd : meaning.Scope) (l : Local) (ls : List Local) (x : List ℕ) → sd.own ≡ own → Knows C sd (l ∷ ls) → is_among (own_names (l ∷ ls)) x ≡ true → is_among own x ≡ true
      own_here sd l ls x owns knows h = subst (λ (o : List (List ℕ)). is_among o x ≡ true) owns (knows.names x h)

      behind_action : (h : Part) (p : ℕ) (a b : tree.Action) → ActionRewritten MayStandFor a b → (ls ms : List Local) (s : Scope) (sd : meaning.Scope) → IsBefore s sd (local_action p a ∷ ls) (local_action p b ∷ ms) → IsPlain a.name
          → IsFine (local_tests h s (local_action p a)) → LocalSees pt S SD s sd (local_action p a) → IsBefore (after_local s (local_action p a)) sd ls ms
      behind_action h p a b r ls ms s sd w plain f sees =
          record {
            knows = knows_rest C sd (local_action p a) ls w.knows;
            owns = w.owns;
            calls = action_calls OwnAction OwnTable s w.calls a.name a.params (most_of s a.body) (own_here sd (local_action p a) ls a.name w.owns w.knows (among_head a.name (own_names ls)), same);
            find = λ x q m.
                (let was = was_missing s a.name (action a.params (most_of s a.body)) refl x m in
                let k = w.find x q was.before in
                let apart : full_name sd a.name ≡ full C x → ⊥ = λ e. was.apart (full_apart a.name x C C plain q (sym named ∙ e)).0 in
                record {
                  actions = k.actions ∙ named_other (actions_in sd ls ++ acts) (action_under sd a) (full C x) apart;
                  others = k.others ∙ named_other (actions_in sd ms ++ bcts) (action_under sd b) (full C x) (λ e. apart (sym (name_stays sd a b r) ∙ e));
                  tables = k.tables;
                  other_tables = k.other_tables;
                });
          }
        where
          named : full_name sd a.name ≡ full C a.name
          named = known_full C sd (local_action p a ∷ ls) w.knows a.name (among_head a.name (own_names ls))

          finds : FindSame all (lists_left sd (local_action p a ∷ ls) (local_action p b ∷ ms)) (full C a.name)
          finds = w.find a.name plain (twice_not _ f.1.0)

          here : action_named all.actions (full C a.name) ≡ Some (action_under sd a)
          here = finds.actions ∙ named_first (action_under sd a) (actions_in sd ls ++ acts) (full C a.name) named

          there : action_named all.others (full C a.name) ≡ Some (action_under sd b)
          there = finds.others ∙ named_first (action_under sd b) (actions_in sd ms ++ bcts) (full C a.name) (name_stays sd a b r ∙ named)

          same : (q : Run) → FitsControl pt S SD q → ActionsDoSame all.actions all.others (full C a.name) q
          same q fits =
              record {
                params = ap params_of there ∙ (params_stay sd a b r ∙ sym (ap params_of here));
                acts = λ ws. ap (λ (o : Option Action). act_if o ws q) there ∙ (acts_same sd a b r pt (action_part h) s f.1 ws q (sees ws q fits) ∙ sym (ap (λ (o : Option Action). act_if o ws q) here));
              }

      behind_table : (h : Part) (p : ℕ) (t u : tree.Table) → TableRewritten MayStandFor t u → (ls ms : List Local) (s : Scope) (sd : meaning.Scope) → IsBefore s sd (local_table p t ∷ ls) (local_table p u ∷ ms) → IsPlain t.name
          → IsFine (local_tests h s (local_table p t)) → LocalSees pt S SD s sd (local_table p t) → IsBefore (after_local s (local_table p t)) sd ls ms
      behind_table h p t u r ls ms s sd w plain f sees =
          record {
            knows = knows_rest C sd (local_table p t) ls w.knows;
            owns = w.owns;
            calls = table_calls OwnAction OwnTable s w.calls t.name most (own_here sd (local_table p t) ls t.name w.owns w.knows (among_head t.name (own_names ls)), agree);
            find = λ x q m.
                (let was = was_missing s t.name (table most) refl x m in
                let k = w.find x q was.before in
                let apart : full_name sd t.name ≡ full C x → ⊥ = λ e. was.apart (full_apart t.name x C C plain q (sym named ∙ e)).0 in
                record {
                  actions = k.actions;
                  others = k.others;
                  tables = k.tables ∙ table_other (tables_in sd all.actions ls ++ tabs) (table_under sd all.actions t) (full C x) apart;
                  other_tables = k.other_tables ∙ table_other (tables_in sd all.others ms ++ ubs) (table_under sd all.others u) (full C x) (λ e. apart (sym renamed ∙ e));
                });
          }
        where
          most : ℕ
          most = most_of_table s t.actions t.default

          named : full_name sd t.name ≡ full C t.name
          named = known_full C sd (local_table p t ∷ ls) w.knows t.name (among_head t.name (own_names ls))

          renamed : full_name sd u.name ≡ full_name sd t.name
          renamed = ap (λ (v : tree.Table). full_name sd v.name) r.rest

          finds : FindSame all (lists_left sd (local_table p t ∷ ls) (local_table p u ∷ ms)) (full C t.name)
          finds = w.find t.name plain (twice_not _ f.1.0)

          here : table_named all.tables (full C t.name) ≡ Some (table_under sd all.actions t)
          here = finds.tables ∙ table_first (table_under sd all.actions t) (tables_in sd all.actions ls ++ tabs) (full C t.name) named

          there : table_named all.other_tables (full C t.name) ≡ Some (table_under sd all.others u)
          there = finds.other_tables ∙ table_first (table_under sd all.others u) (tables_in sd all.others ms ++ ubs) (full C t.name) (renamed ∙ named)

          runs : RunsListed (Some (table_under sd all.actions t)) (held (full C t.name))
          runs = subst (λ (o : Option Table). RunsListed o (held (full C t.name))) here (listed (full C t.name))

          rows_agree : (q : Run) → FitsControl pt S SD q → RowsAgree all.actions all.others (table_under sd all.actions t) (table_under sd all.others u) (held (full C t.name)) q
          rows_agree q fits =
              record {
                keys = keys_stay pt s sd q.store (sees q fits) t.keys u.keys r.keys f.1.1.1.0;
                listed = entries_same sd w.owns w.knows.control s w.calls q fits t.at t f.1.1.1.1.1.0 f.1.1.1.1.1.1 (held (full C t.name)).listed runs.0;
                default = runs_same sd w.owns w.knows.control s w.calls q fits t.at t f.1.1.1.1.1.0 f.1.1.1.1.1.1 (held (full C t.name)).default.action runs.1;
              }

          agree : (q : Run) → FitsControl pt S SD q → TablesAgree all.actions all.others (table_named all.tables (full C t.name)) (table_named all.other_tables (full C t.name)) (held (full C t.name)) q
          agree q fits =
              subst (λ (o : Option Table). TablesAgree all.actions all.others o (table_named all.other_tables (full C t.name)) (held (full C t.name)) q) (sym here)
              (subst (λ (o : Option Table). TablesAgree all.actions all.others (Some (table_under sd all.actions t)) o (held (full C t.name)) q) (sym there) (rows_agree q fits))

      -- a declaration that is not called
      behind_quiet : (s : Scope) (sd su : meaning.Scope) (l m : Local) (ls ms : List Local) (n : List ℕ) (w : What) → IsBefore s sd (l ∷ ls) (m ∷ ms) → Knows C su ls → su.own ≡ own
          → ((y : List ℕ) → FindSame all (lists_left sd (l ∷ ls) (m ∷ ms)) y → FindSame all (lists_left su ls ms) y) → is_missing (behind s w []) ≡ false → IsQuiet (behind s w []) → IsBefore (declare s n w) su ls ms
      behind_quiet s sd su l m ls ms n w b knows owns same some quiet =
          record {
            knows = knows;
            owns = owns;
            calls = quiet_calls OwnAction OwnTable s b.calls n w quiet;
            find = λ x q i. same (full C x) (b.find x q (was_missing s n w some x i).before);
          }

      behind_one : (h : Part) (l m : Local) → LocalRewritten MayStandFor l m → (ls ms : List Local) (s : Scope) (sd : meaning.Scope) → IsBefore s sd (l ∷ ls) (m ∷ ms) → IsPlainLocal l → IsFine (local_tests h s l) → LocalSees pt S SD s sd l
          → IsBefore (after_local s l) (behind_local sd l) ls ms
      behind_one h _ _ (in_action {a = a} {b = b} p r) ls ms s sd w plain f sees = behind_action h p a b r ls ms s sd w plain f sees
      behind_one h _ _ (in_table {t = t} {u = u} p r) ls ms s sd w plain f sees = behind_table h p t u r ls ms s sd w plain f sees
      behind_one h _ _ (local_register_stays p g) ls ms s sd w plain f sees =
          behind_quiet s sd sd (local_register p g) (local_register p g) ls ms g.name (scope.register g.ty) w (knows_rest C sd (local_register p g) ls w.knows) w.owns (λ y k. record { actions = k.actions; others = k.others; tables = k.tables; other_tables = k.other_tables }) refl tt
      behind_one h _ _ (local_const_stays p t x e) ls ms s sd w plain f sees =
          behind_quiet s sd (behind_local sd (local_const p t x e)) (local_const p t x e) (local_const p t x e) ls ms x (value Constant t) w (knows_rest C sd (local_const p t x e) ls w.knows) w.owns
          (λ y k. record { actions = k.actions; others = k.others; tables = k.tables; other_tables = k.other_tables }) refl tt
      behind_one h _ _ (in_local_var {d = d} {e = e} p t x r) ls ms s sd w plain f sees =
          behind_quiet s sd sd (local_var p t x d) (local_var p t x e) ls ms x (value Writable t) w (knows_rest C sd (local_var p t x d) ls w.knows) w.owns (λ y k. record { actions = k.actions; others = k.others; tables = k.tables; other_tables = k.other_tables }) refl tt

      -- behind all declarations
      pub behind_each : (h : Part) (ls ms : List Local) → LocalsRewritten ls ms → (s : Scope) (sd : meaning.Scope) → IsBefore s sd ls ms → AllByRecursion IsPlainLocal ls → IsFine (locals_tests h s ls) → LocalsSee pt S SD s sd ls
          → IsBefore (after_locals s ls) (behind_locals sd ls) [] []
      behind_each h [] [] r s sd w plain f sees = w
      behind_each h [] (m ∷ ms) r s sd w plain f sees = absurd r
      behind_each h (l ∷ ls) [] r s sd w plain f sees = absurd r
      behind_each h (l ∷ ls) (m ∷ ms) r s sd w plain f sees = behind_each h ls ms r.1 (after_local s l) (behind_local sd l) (behind_one h l m r.0 ls ms s sd w plain.0 f.0 sees.0) plain.1 f.1 sees.1

    -- ---- along the statements of its body

    pub calls_stay : (h : Part) (s : Scope) → Calls OwnAction OwnTable s → (c : Stmt) → IsFine (stmt_tests h s c) → Calls OwnAction OwnTable (after s c)
    calls_stay h s k (nothing p) f = k
    calls_stay h s k (block p b) f = k
    calls_stay h s k (var p t x e) f = quiet_calls OwnAction OwnTable s k x (value Writable t) tt
    calls_stay h s k (assign p x e) f = k
    calls_stay h s k (choice p e a b) f = k
    calls_stay h s k (return_ p) f = k
    calls_stay h s k (exit_ p) f = k
    calls_stay h s k (call p x args) f = k

    pub calls_same : (sd : meaning.Scope) → sd.own ≡ own → sd.control ≡ C → (s : Scope) → Calls OwnAction OwnTable s → (r : Run) → FitsControl pt S SD r → DoSame s sd (calls_in all.actions all.tables held) (calls_in all.others all.other_tables held) r
    calls_same sd owns control s calls r fits =
        programs_calls s sd all.actions all.others all.tables all.other_tables held r (λ x ks m e. action_same sd owns control s calls r fits x ks m e) (λ x m e. table_same sd owns control s calls r fits x m e)
