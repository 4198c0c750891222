-- Along the declarations of a control each action counts what its body counts, and each table the most that its actions
-- and its default count.
use Rattle.std.proofs.Common.{◌≡◌, ◌⊎◌, inl, inr, ℕ, List, [], ◌∷◌, ◌++◌, map, Bool, true, false, cond, not, ◌||◌, codes, Option, Some, None, refl, sym, ap, ◌∙◌, subst}
use Rattle.std.specs.List.{AllByRecursion}
use Rattle.lex_text.specs.Names.{same_text}
use Rattle.rule_tests.specs.Tests.{IsFine}
use Rattle.p4_tree.specs.Tree as tree
use Rattle.p4_tree.specs.Tree.{Expr, Local, local_action, local_table, local_register, local_const, local_var, Control}
use Rattle.p4_meaning.specs.Scope as meaning
use Rattle.p4_meaning.specs.Scope.{is_among, full, full_name, own_names}
use Rattle.p4_meaning.specs.Under.{stmts_under, behind_local, behind_locals}
use Rattle.p4_meaning.specs.Actions.{Action, in_action, action_under, actions_in, action_named}
use Rattle.p4_meaning.specs.Tables.{Table, default_under, table_under, tables_in, table_named}
use Rattle.p4_meaning.specs.DigestBound as bound
use Rattle.p4_meaning.specs.DigestBound.{none_told, most_named, most_applied}
use Rattle.p4_scopes.specs.Scopes.{Stands, missing, typed, held, cells, act, rows, state, function, algorithm, other, is_missing, Scope, What, value, behind, declare, kinds_in, action, table, core_name}
use Rattle.p4_scopes.specs.Scopes as scope
use Rattle.p4_scopes.specs.Uses.{is_action, most_in}
use Rattle.p4_scopes.specs.declared.thing.Access.TheVariants.{Writable, Constant}
use Rattle.p4_scopes.specs.declared.thing.Function.{Function}
use Rattle.p4_scopes.specs.declared.thing.Function.TheVariants.{MarkToDrop, Digest, VerifyChecksum, UpdateChecksum}
use Rattle.p4_statement_rules.specs.Forms.{takes_runs}
use Rattle.p4_statement_rules.specs.declared.rule.Part.{Part}
use Rattle.p4_statement_rules.specs.declared.rule.Part.TheVariants as place
use Rattle.p4_declaration_rules.specs.Digests.{most_of, greatest, most_of_default, most_of_table}
use Rattle.p4_declaration_rules.specs.Declarations.{with_params}
use Rattle.p4_declaration_rules.specs.Tables.{listed_tests, default_args, default_tests, table_tests}
use Rattle.p4_declaration_rules.specs.Controls.{action_part, local_tests, after_local, locals_tests, after_locals}
use Rattle.p4_typing_laws.specs.Plain.{IsPlain, IsPlainLocal}
use Rattle.p4_typing_laws.proofs.Fine.{twice_not}
use Rattle.p4_typing_laws.proofs.Cut.{IsCut, zero_cut, max_cut}
use Rattle.p4_typing_laws.proofs.CallCounts.{text_is, text_same, function_name, is_function_name, IsQuiet, Counts, block_counts, no_more_values, params_more}
use Rattle.p4_typing_laws.proofs.FullNames.{full_apart, full_has, no_function, among_head, Knows, known_full, knows_rest, named_other, table_other}
use Rattle.p4_typing_laws.proofs.CountedNames.{was_missing, KeepsCore, declare_keeps, Calls, IsNoAction, quiet_calls, action_calls, table_calls}

broken : {A : Type 0} → true ≡ false → A
broken h = absurd (cc)

-- ---- the names that a control declares

-- what a control declares is new
pub own_missing : (h : Part) (ls : List Local) (s : Scope) → IsFine (locals_tests h s ls) → (x : List ℕ) → is_among (own_names ls) x ≡ true → is_missing (s (x ∷ [])) ≡ true
own_missing h [] s f x e = broken (sym e)
own_missing h (local_action p a ∷ ls) s f x e = go (same_text a.name x) refl e (own_missing h ls (after_local s (local_action p a)) f.1 x)
  where
    go : (b : Bool) → same_text a.name x ≡ b → (b || is_among (own_names ls) x) ≡ true → (is_among (own_names ls) x ≡ true → is_missing (after_local s (local_action p a) (x ∷ [])) ≡ true) → is_missing (s (x ∷ [])) ≡ true
    go true i j more = subst (λ (y : List ℕ). is_missing (s (y ∷ [])) ≡ true) (text_is a.name x i) (twice_not _ f.0.1.0)
    go false i j more = (was_missing s a.name (action a.params (most_of s a.body)) refl x (more j)).before
own_missing h (local_table p t ∷ ls) s f x e = go (same_text t.name x) refl e (own_missing h ls (after_local s (local_table p t)) f.1 x)
  where
    go : (b : Bool) → same_text t.name x ≡ b → (b || is_among (own_names ls) x) ≡ true → (is_among (own_names ls) x ≡ true → is_missing (after_local s (local_table p t) (x ∷ [])) ≡ true) → is_missing (s (x ∷ [])) ≡ true
    go true i j more = subst (λ (y : List ℕ). is_missing (s (y ∷ [])) ≡ true) (text_is t.name x i) (twice_not _ f.0.1.0)
    go false i j more = (was_missing s t.name (table (most_of_table s t.actions t.default)) refl x (more j)).before
own_missing h (local_register p r ∷ ls) s f x e = go (same_text r.name x) refl e (own_missing h ls (after_local s (local_register p r)) f.1 x)
  where
    go : (b : Bool) → same_text r.name x ≡ b → (b || is_among (own_names ls) x) ≡ true → (is_among (own_names ls) x ≡ true → is_missing (after_local s (local_register p r) (x ∷ [])) ≡ true) → is_missing (s (x ∷ [])) ≡ true
    go true i j more = subst (λ (y : List ℕ). is_missing (s (y ∷ [])) ≡ true) (text_is r.name x i) (twice_not _ f.0.1.0)
    go false i j more = (was_missing s r.name (scope.register r.ty) refl x (more j)).before
own_missing h (local_const p t y e' ∷ ls) s f x e = (was_missing s y (value Constant t) refl x (own_missing h ls (after_local s (local_const p t y e')) f.1 x e)).before
own_missing h (local_var p t y e' ∷ ls) s f x e = (was_missing s y (value Writable t) refl x (own_missing h ls (after_local s (local_var p t y e')) f.1 x e)).before

-- none of them is a name of the architecture's own
pub record IsNew (own : List (List ℕ)) : Type 0 where
  pub apart : (x : List ℕ) → is_missing (core_name x) ≡ false → is_among own x ≡ false

pub own_new : (own : List (List ℕ)) (s : Scope) → KeepsCore s → ((x : List ℕ) → is_among own x ≡ true → is_missing (s (x ∷ [])) ≡ true) → IsNew own
own_new own s k h = record { apart = λ x some. go x some (is_among own x) refl }
  where
    go : (x : List ℕ) → is_missing (core_name x) ≡ false → (b : Bool) → is_among own x ≡ b → is_among own x ≡ false
    go x some true e = (let c : true ≡ false = sym (h x e) ∙ ap is_missing (k.kept x some) ∙ some in absurd (cc))
    go x some false e = e

function_core : (f : Function) → is_missing (core_name (function_name f)) ≡ false
function_core MarkToDrop = refl
function_core Digest = refl
function_core VerifyChecksum = refl
function_core UpdateChecksum = refl

-- in an action no action is called and no table applied
runs_none : (h : Part) → takes_runs (action_part h) ≡ false
runs_none place.State = refl
runs_none place.Verify = refl
runs_none place.Apply = refl
runs_none place.Action = refl
runs_none place.Compute = refl
runs_none place.Deparser = refl
runs_none place.Other = refl

-- ---- counts

module _ (as' : List Action) (tabs : List Table) (none : action_named as' (codes "NoAction") ≡ None) (c : List ℕ) (own : List (List ℕ)) (new : IsNew own) where
  -- an action, and a table, of the control
  abbrev pub OwnAction : List ℕ → ℕ → Type 0
  OwnAction x m = (is_among own x ≡ true) × IsCut (most_named as' (full c x)) m

  abbrev pub OwnTable : List ℕ → ℕ → Type 0
  OwnTable x m = (is_among own x ≡ true) × IsCut (most_applied as' tabs (full c x)) m

  module _ (sc : meaning.Scope) (owns : sc.own ≡ own) (control : sc.control ≡ c) where
    full_own : (x : List ℕ) → is_among own x ≡ true → full_name sc x ≡ full c x
    full_own x h = ap (λ (o : List (List ℕ)). cond (is_among o x) (full sc.control x) x) owns ∙ ap (λ (b : Bool). cond b (full sc.control x) x) h ∙ ap (λ (d : List ℕ). full d x) control

    full_core : (x : List ℕ) → is_missing (core_name x) ≡ false → full_name sc x ≡ x
    full_core x h = ap (λ (o : List (List ℕ)). cond (is_among o x) (full sc.control x) x) owns ∙ ap (λ (b : Bool). cond b (full sc.control x) x) (new.apart x h)

    pub counts_of : (may : Bool) (s : Scope) → Calls OwnAction OwnTable s → Counts (full_name sc) (most_named as') (most_applied as' tabs) may s
    counts_of may s calls =
        record {
          functions = λ x f e. functions x f (calls.functions x f e);
          actions = λ x ks m e k. actions x m (calls.actions x ks m e);
          tables = λ x m e k. tables x m (calls.tables x m e);
          inner = calls.inner;
        }
      where
        functions : (x : List ℕ) (f : Function) → x ≡ function_name f → full_name sc x ≡ function_name f
        functions x f e = ap (full_name sc) e ∙ full_core (function_name f) (function_core f)

        no_action : IsCut (most_named as' (codes "NoAction")) 0
        no_action = subst (λ (o : Option Action). IsCut (bound.most_of_action o) 0) (sym none) zero_cut

        actions : (x : List ℕ) (m : ℕ) → IsNoAction x m ⊎ OwnAction x m → (is_function_name (full_name sc x) ≡ false) × IsCut (most_named as' (full_name sc x)) m
        actions x m (inl e) =
            (let P : List ℕ → Type 0 = λ y. (is_function_name y ≡ false) × IsCut (most_named as' y) m in
            subst P (sym (ap (full_name sc) e.0 ∙ full_core (codes "NoAction") refl)) (refl, subst (λ (n : ℕ). IsCut (most_named as' (codes "NoAction")) n) (sym e.1) no_action))
        actions x m (inr h) =
            (let P : List ℕ → Type 0 = λ y. (is_function_name y ≡ false) × IsCut (most_named as' y) m in
            subst P (sym (full_own x h.0)) (no_function (full c x) (full_has c x), h.1))

        tables : (x : List ℕ) (m : ℕ) → OwnTable x m → IsCut (most_applied as' tabs (full_name sc x)) m
        tables x m h = subst (λ (y : List ℕ). IsCut (most_applied as' tabs y) m) (sym (full_own x h.0)) h.1

    -- where none may be, as in an action's body, no action is called and no table applied
    pub body_counts : (may : Bool) → may ≡ false → (s : Scope) → Calls OwnAction OwnTable s → Counts (full_name sc) none_told none_told may s
    body_counts may none s calls =
        record {
          functions = (counts_of may s calls).functions;
          actions = λ x ks m e k. broken (sym k ∙ none);
          tables = λ x m e k. broken (sym k ∙ none);
          inner = calls.inner;
        }

    -- ---- tables

    action_there : (s : Scope) → Counts (full_name sc) (most_named as') (most_applied as' tabs) true s → (x : List ℕ) (st : Stands) → s (x ∷ []) ≡ st → is_missing st ≡ false → not (is_action st) ≡ false → IsCut (most_named as' (full_name sc x)) (most_in (s (x ∷ [])))
    action_there s counts x missing e h k = broken h
    action_there s counts x (typed b t) e h k = broken k
    action_there s counts x (held a t) e h k = broken k
    action_there s counts x (cells j) e h k = broken k
    action_there s counts x (act ks m) e h k = subst (λ (st : Stands). IsCut (most_named as' (full_name sc x)) (most_in st)) (sym e) (counts.actions x ks m e refl).1
    action_there s counts x (rows m) e h k = broken k
    action_there s counts x state e h k = broken k
    action_there s counts x (function g) e h k = broken k
    action_there s counts x algorithm e h k = broken k
    action_there s counts x other e h k = broken k

    listed_counts : (p : ℕ) (s : Scope) → Counts (full_name sc) (most_named as') (most_applied as' tabs) true s → (xs : List (List ℕ)) → IsFine (listed_tests p s xs) → IsCut (bound.greatest as' (map (full_name sc) xs)) (greatest s xs)
    listed_counts p s counts [] f = zero_cut
    listed_counts p s counts (x ∷ xs) f = max_cut _ _ _ _ (action_there s counts x (s (x ∷ [])) refl f.0.0 f.0.1) (listed_counts p s counts xs f.1)

    default_there : (p : ℕ) (s : Scope) → Counts (full_name sc) (most_named as') (most_applied as' tabs) true s → (x : List ℕ) (es : List Expr) (st : Stands) → s (x ∷ []) ≡ st → IsFine (default_args p s st es) → IsCut (most_named as' (full_name sc x)) (most_in (s (x ∷ [])))
    default_there p s counts x es missing e f = broken f
    default_there p s counts x es (typed b t) e f = broken f
    default_there p s counts x es (held a t) e f = broken f
    default_there p s counts x es (cells j) e f = broken f
    default_there p s counts x es (act ks m) e f = subst (λ (st : Stands). IsCut (most_named as' (full_name sc x)) (most_in st)) (sym e) (counts.actions x ks m e refl).1
    default_there p s counts x es (rows m) e f = broken f
    default_there p s counts x es state e f = broken f
    default_there p s counts x es (function g) e f = broken f
    default_there p s counts x es algorithm e f = broken f
    default_there p s counts x es other e f = broken f

    default_counts : (p : ℕ) (s : Scope) → Counts (full_name sc) (most_named as') (most_applied as' tabs) true s → (xs : List (List ℕ)) (d : Option (List ℕ × List Expr)) → IsFine (default_tests p s xs d) → IsCut (most_named as' (default_under sc as' d).action) (most_of_default s d)
    default_counts p s counts xs None f = subst (λ (o : Option Action). IsCut (bound.most_of_action o) 0) (sym none) zero_cut
    default_counts p s counts xs (Some d) f = default_there p s counts d.0 d.1 (s (d.0 ∷ [])) refl f.1

    table_counts : (s : Scope) → Counts (full_name sc) (most_named as') (most_applied as' tabs) true s → (t : tree.Table) → IsFine (table_tests s t) → IsCut (bound.most_of_table as' (Some (table_under sc as' t))) (most_of_table s t.actions t.default)
    table_counts s counts t f = max_cut _ _ _ _ (default_counts t.at s counts t.actions t.default f.1.1.1.1.1) (listed_counts t.at s counts t.actions f.1.1.1.1.0)

  -- ---- along the declarations

  behind_own : (sc : meaning.Scope) (l : Local) → (behind_local sc l).own ≡ sc.own
  behind_own sc (local_action p a) = refl
  behind_own sc (local_table p t) = refl
  behind_own sc (local_register p r) = refl
  behind_own sc (local_const p t x e) = refl
  behind_own sc (local_var p t x e) = refl

  -- what is known in front of declarations: what is in sight, and that the full names of what is still to be declared
  -- are found here
  pub record IsBefore (acts : List Action) (ts : List Table) (sc : meaning.Scope) (ls : List Local) (s : Scope) : Type 0 where
    pub knows : Knows c sc ls
    pub owns : sc.own ≡ own
    pub core : KeepsCore s
    pub calls : Calls OwnAction OwnTable s
    pub finds_actions : (x : List ℕ) → IsPlain x → is_missing (s (x ∷ [])) ≡ true → action_named as' (full c x) ≡ action_named (actions_in sc ls ++ acts) (full c x)
    pub finds_tables : (x : List ℕ) → IsPlain x → is_missing (s (x ∷ [])) ≡ true → table_named tabs (full c x) ≡ table_named (tables_in sc as' ls ++ ts) (full c x)

  named_here : (a : Action) (rest : List Action) (y : List ℕ) → a.name ≡ y → action_named (a ∷ rest) y ≡ Some a
  named_here a rest y e = ap (λ (b : Bool). cond b (Some a) (action_named rest y)) (text_same a.name y e)

  table_here : (t : Table) (rest : List Table) (y : List ℕ) → t.name ≡ y → table_named (t ∷ rest) y ≡ Some t
  table_here t rest y e = ap (λ (b : Bool). cond b (Some t) (table_named rest y)) (text_same t.name y e)

  module _ (acts : List Action) (ts : List Table) (h : Part) where
    behind_action : (sc : meaning.Scope) (p : ℕ) (a : tree.Action) (ls : List Local) (s : Scope) → IsBefore acts ts sc (local_action p a ∷ ls) s → IsPlain a.name → IsFine (local_tests h s (local_action p a)) → IsBefore acts ts sc ls (after_local s (local_action p a))
    behind_action sc p a ls s b plain f =
        record {
          knows = knows_rest c sc (local_action p a) ls b.knows;
          owns = b.owns;
          core = declare_keeps s b.core a.name (action a.params (most_of s a.body)) new_name;
          calls = action_calls OwnAction OwnTable s b.calls a.name a.params (most_of s a.body) (is_own, counted);
          finds_actions = λ x q m. (let was = was_missing s a.name (action a.params (most_of s a.body)) refl x m in b.finds_actions x q was.before ∙ named_other _ (action_under sc a) (full c x) (λ e. was.apart (full_apart a.name x c c plain q (sym named ∙ e)).0));
          finds_tables = λ x q m. b.finds_tables x q (was_missing s a.name (action a.params (most_of s a.body)) refl x m).before;
        }
      where
        new_name : is_missing (s (a.name ∷ [])) ≡ true
        new_name = twice_not _ f.1.0

        is_own : is_among own a.name ≡ true
        is_own = subst (λ (o : List (List ℕ)). is_among o a.name ≡ true) b.owns (b.knows.names a.name (among_head a.name (own_names ls)))

        named : full_name sc a.name ≡ full c a.name
        named = known_full c sc (local_action p a ∷ ls) b.knows a.name (among_head a.name (own_names ls))

        found : action_named as' (full c a.name) ≡ Some (action_under sc a)
        found = b.finds_actions a.name plain new_name ∙ named_here (action_under sc a) _ (full c a.name) named

        body : IsCut (bound.most_of none_told none_told (stmts_under (in_action sc a) a.body)) (most_of s a.body)
        body = block_counts (in_action sc a) none_told none_told (action_part h) s (body_counts sc b.owns b.knows.control _ (runs_none h) s b.calls) a.body (with_params s a.params) (params_more a.at a.params s s (no_more_values s) f.1.1.0) f.1.1.1

        counted : IsCut (most_named as' (full c a.name)) (most_of s a.body)
        counted = subst (λ (o : Option Action). IsCut (bound.most_of_action o) (most_of s a.body)) (sym found) body

    behind_table : (sc : meaning.Scope) (p : ℕ) (t : tree.Table) (ls : List Local) (s : Scope) → IsBefore acts ts sc (local_table p t ∷ ls) s → IsPlain t.name → IsFine (local_tests h s (local_table p t)) → IsBefore acts ts sc ls (after_local s (local_table p t))
    behind_table sc p t ls s b plain f =
        record {
          knows = knows_rest c sc (local_table p t) ls b.knows;
          owns = b.owns;
          core = declare_keeps s b.core t.name (table most) new_name;
          calls = table_calls OwnAction OwnTable s b.calls t.name most (is_own, counted);
          finds_actions = λ x q m. b.finds_actions x q (was_missing s t.name (table most) refl x m).before;
          finds_tables = λ x q m. (let was = was_missing s t.name (table most) refl x m in b.finds_tables x q was.before ∙ table_other _ (table_under sc as' t) (full c x) (λ e. was.apart (full_apart t.name x c c plain q (sym named ∙ e)).0));
        }
      where
        most : ℕ
        most = most_of_table s t.actions t.default

        new_name : is_missing (s (t.name ∷ [])) ≡ true
        new_name = twice_not _ f.1.0

        is_own : is_among own t.name ≡ true
        is_own = subst (λ (o : List (List ℕ)). is_among o t.name ≡ true) b.owns (b.knows.names t.name (among_head t.name (own_names ls)))

        named : full_name sc t.name ≡ full c t.name
        named = known_full c sc (local_table p t ∷ ls) b.knows t.name (among_head t.name (own_names ls))

        found : table_named tabs (full c t.name) ≡ Some (table_under sc as' t)
        found = b.finds_tables t.name plain new_name ∙ table_here (table_under sc as' t) _ (full c t.name) named

        counted : IsCut (most_applied as' tabs (full c t.name)) (most_of_table s t.actions t.default)
        counted = subst (λ (o : Option Table). IsCut (bound.most_of_table as' o) (most_of_table s t.actions t.default)) (sym found) (table_counts sc b.owns b.knows.control s (counts_of sc b.owns b.knows.control true s b.calls) t f.1)

    -- a declaration that is not called, and whose name is no full one
    quiet_before : (sd : meaning.Scope) (ls : List Local) (s : Scope) (n : List ℕ) (w : What) → Knows c sd ls → sd.own ≡ own → KeepsCore s → Calls OwnAction OwnTable s
        → ((x : List ℕ) → IsPlain x → is_missing (s (x ∷ [])) ≡ true → action_named as' (full c x) ≡ action_named (actions_in sd ls ++ acts) (full c x))
        → ((x : List ℕ) → IsPlain x → is_missing (s (x ∷ [])) ≡ true → table_named tabs (full c x) ≡ table_named (tables_in sd as' ls ++ ts) (full c x))
        → is_missing (s (n ∷ [])) ≡ true → is_missing (behind s w []) ≡ false → IsQuiet (behind s w []) → IsBefore acts ts sd ls (declare s n w)
    quiet_before sd ls s n w knows owns core calls finds tables new_name some quiet =
        record {
          knows = knows;
          owns = owns;
          core = declare_keeps s core n w new_name;
          calls = quiet_calls OwnAction OwnTable s calls n w quiet;
          finds_actions = λ x q m. finds x q (was_missing s n w some x m).before;
          finds_tables = λ x q m. tables x q (was_missing s n w some x m).before;
        }

    behind_one : (sc : meaning.Scope) (l : Local) (ls : List Local) (s : Scope) → IsBefore acts ts sc (l ∷ ls) s → IsPlainLocal l → IsFine (local_tests h s l) → IsBefore acts ts (behind_local sc l) ls (after_local s l)
    behind_one sc (local_action p a) ls s b plain f = behind_action sc p a ls s b plain f
    behind_one sc (local_table p t) ls s b plain f = behind_table sc p t ls s b plain f
    behind_one sc (local_register p r) ls s b plain f = quiet_before sc ls s r.name (scope.register r.ty) (knows_rest c sc (local_register p r) ls b.knows) b.owns b.core b.calls b.finds_actions b.finds_tables (twice_not _ f.1.0) refl tt
    behind_one sc (local_const p t x e) ls s b plain f = quiet_before (behind_local sc (local_const p t x e)) ls s x (value Constant t) (knows_rest c sc (local_const p t x e) ls b.knows) b.owns b.core b.calls b.finds_actions b.finds_tables (twice_not _ f.1.0) refl tt
    behind_one sc (local_var p t x e) ls s b plain f = quiet_before sc ls s x (value Writable t) (knows_rest c sc (local_var p t x e) ls b.knows) b.owns b.core b.calls b.finds_actions b.finds_tables (twice_not _ f.1.0) refl tt

    -- behind all declarations
    pub behind_each : (ls : List Local) (sc : meaning.Scope) (s : Scope) → IsBefore acts ts sc ls s → AllByRecursion IsPlainLocal ls → IsFine (locals_tests h s ls) → IsBefore acts ts (behind_locals sc ls) [] (after_locals s ls)
    behind_each [] sc s b plain f = b
    behind_each (l ∷ ls) sc s b plain f = behind_each ls (behind_local sc l) (after_local s l) (behind_one sc l ls s b plain.0 f.0) plain.1 f.1
