-- Ingress and egress use variables of their own alone, in their body, their actions and their tables.
use Rattle.std.proofs.Common.{◌≡◌, ◌⊎◌, inl, ℕ, List, [], ◌∷◌, ◌++◌, map, Bool, true, false, cond, not, None, refl, sym, ap, ◌∙◌, subst, inr, ◌||◌}
use Rattle.std.specs.List.{AllByRecursion}
use Rattle.lex_text.specs.Names.{same_text}
use Rattle.rule_tests.specs.Tests.{IsFine}
use Rattle.p4_tree.specs.Tree as tree
use Rattle.p4_tree.specs.Tree.{Expr, Stmts, done, next, var, and_then, Local, local_action, local_table, local_register, local_const, local_var, nothing, block, assign, choice, return_, exit_, call}
use Rattle.p4_tree.specs.declared.statement.PTy.{PTy}
use Rattle.p4_meaning.specs.Scope as meaning
use Rattle.p4_meaning.specs.Scope.{Roots, Inner, root_of, is_among, is_inner, inner_name, full, full_name, first_name, constant_named, constant_at, names_in, own_names, type_under}
use Rattle.p4_meaning.specs.Under.{stmts_under, with_constant, behind_local, behind_locals, settings_under}
use Rattle.p4_meaning.specs.Actions.{params_in, in_action, param_under, action_under, Action, actions_in}
use Rattle.p4_scopes.specs.Scopes.{is_missing, Scope, value, behind, declare}
use Rattle.p4_scopes.specs.Uses.{is_writable}
use Rattle.p4_scopes.specs.declared.thing.Access.TheVariants.{Fixed, Constant, Writable}
use Rattle.p4_statement_rules.specs.declared.rule.Part.TheVariants as place
use Rattle.p4_declaration_rules.specs.Declarations.{with_params, action_tests}
use Rattle.p4_rule_laws.specs.Old.{OldFields}
use Rattle.p4_typing_laws.specs.Places.{ActionUses, KeyUses, LocalsUses}
use Rattle.p4_typing_laws.specs.Names.{UseAgrees}
use Rattle.p4_typing_laws.proofs.CallCounts.{text_is, text_same}
use Rattle.p4_typing_laws.proofs.FullNames.{full_has, among_head, other_text, among_tail, Knows, knows_rest}
use Rattle.p4_typing_laws.proofs.CountedNames.{was_missing}
use Rattle.p4_typing_laws.proofs.TiedNames.{inner_missing}
use Rattle.p4_typing_laws.proofs.AlongRuns.{among_left, among_right}
use Rattle.exit_statements.specs.Free.{Hides, is_flag, shows, IsFreeExpr, AreFreeStmts}
use Rattle.exit_statements.specs.Actions.{flags_in, all_but, shows_params, IsFreeAction, IsFreeTable}
use Rattle.exit_statements.specs.WrittenActions.{returned_in}
use Rattle.exit_programs.specs.Programs.{flags}
use Rattle.p4_typing_laws.specs.Plain.{has_point, is_plain, IsPlain}
use Rattle.exit_programs.specs.Names.{is_given}
use Rattle.p4_meaning.specs.Tables.{key_under, tables_in}
use Rattle.p4_meaning.specs.Parts.{Parts}
use Rattle.p4_declaration_rules.specs.Controls.{local_tests, after_local, locals_tests, after_locals}
use Rattle.p4_rule_laws.specs.OldPrograms.{OldLocal, OldLocals}
use Rattle.p4_typing_laws.proofs.Fine.{twice_not}
use Rattle.p4_typing_laws.proofs.ReadyPlaces.{IsControl, root_free}
use Rattle.p4_typing_laws.proofs.RunPlaces.{IsPlaced, placed_more}
use Rattle.exit_statements.specs.Laws.{is_other}
use Rattle.exit_statements.specs.Controls.{var_names, AreVars}
use Rattle.exit_names.proofs.Names.{broken, false_if, point_other, given_no_flag, inner_full, inner_one, inner_no_flag, old_params, old_names, local_names}
use Rattle.exit_names.proofs.Seen.{Sees, sees_declared, sees_quiet, expr_free}
use Rattle.exit_names.proofs.Blocks.{IsRun, NamesFunctions, functions_declared, start_free, AreOwn, IsAt, at_more, name_free, block_free}

action_run : IsRun place.Action
action_run = record { extracts = refl; emits = refl; verifies = refl }

pub apply_run : IsRun place.Apply
apply_run = record { extracts = refl; emits = refl; verifies = refl }

-- ---- a constant of a control, which no action is around

pub sees_constant : (sc : meaning.Scope) (t : PTy) (x : List ℕ) (e : Expr) → sc.inner ≡ None → (s : Scope) (hides : Hides) → Sees s sc hides → Sees (declare s x (value Constant t)) (with_constant sc t x e) hides
sees_constant sc t x e outer s hides sees = sees_declared s sc (with_constant sc t x e) hides hides x (value Constant t) sees (λ q h. h) (λ y. refl) (λ y i c. cc) (λ r k. no_read k)
  where
    no_read : (constant_at (with_constant sc t x e) (x ∷ []) ≡ None) ⊎ (is_writable (behind s (value Constant t) []) ≡ true) → hides (first_name sc x ∷ []) ≡ false
    no_read (inl c) = (let same = text_same x x refl in absurd (cc))
    no_read (inr k) = broken (sym k)

-- ---- an action

module _ (seen : List ℕ → Bool) (plain : (y : List ℕ) → seen y ≡ true → has_point y ≡ false) where
  module _ (s : Scope) (sc : meaning.Scope) (outer : sc.inner ≡ None) (sees : Sees s sc (all_but seen)) (functions : NamesFunctions s sc) (a : tree.Action) where
    abbrev inner_names : List (List ℕ)
    inner_names = params_in a.params ++ names_in a.body

    abbrev NewIn : List ℕ → Type 0
    NewIn x = (is_among inner_names x ≡ true) × (is_given x ≡ true)

    abbrev n : List ℕ
    n = full sc.control a.name

    inner_is : (x : List ℕ) → is_among inner_names x ≡ true → first_name (in_action sc a) x ≡ inner_full sc.control a.name x
    inner_is x i = ap (λ (b : Bool). cond b (inner_full sc.control a.name x) (root_of sc.roots x)) i

    outer_is : (x : List ℕ) → is_among inner_names x ≡ false → first_name (in_action sc a) x ≡ first_name sc x
    outer_is x i = cc

    outer_constant_is : (x : List ℕ) → is_among inner_names x ≡ false → constant_at (in_action sc a) (x ∷ []) ≡ constant_at sc (x ∷ [])
    outer_constant_is x i = cc

    own_action : AreOwn (in_action sc a) (flags_in flags.left (returned_in flags) n) has_point NewIn
    own_action =
        record {
          apart = λ x y h k e. inner_one sc.control a.name x y (sym (inner_is x h.0) ∙ e ∙ inner_is y k.0);
          no_flag = λ x h. ap (λ (y : List ℕ). is_flag (flags_in flags.left (returned_in flags) n) y) (inner_is x h.0) ∙ inner_no_flag sc.control a.name x h.1;
          may_be = λ x h. ap has_point (inner_is x h.0) ∙ full_has sc.control (full a.name x);
        }

    module _ (f : IsFine (action_tests place.Action s a)) where
      not_inner : (x : List ℕ) → is_missing (s (x ∷ [])) ≡ false → is_among inner_names x ≡ false
      not_inner x h = false_if _ (λ e. broken (sym (inner_missing place.Action s a f x e) ∙ h))

      still_shown : (x : List ℕ) → is_among inner_names x ≡ false → (constant_at (in_action sc a) (x ∷ []) ≡ None) ⊎ (is_writable (s (x ∷ [])) ≡ true) → (constant_at sc (x ∷ []) ≡ None) ⊎ (is_writable (s (x ∷ [])) ≡ true)
      still_shown x i (inl c) = inl (sym (outer_constant_is x i) ∙ c)
      still_shown x i (inr k) = inr k

      begins : IsAt NewIn s (in_action sc a) (all_but seen)
      begins =
          record {
            sees = record { shown = λ x h r k. ap (λ (y : List ℕ). not (seen y)) (outer_is x (not_inner x h)) ∙ sees.shown x h r (still_shown x (not_inner x h) k); long = λ x y rest. refl; empty = refl };
            hidden = λ x h m. ap (λ (y : List ℕ). not (seen y)) (inner_is x h.0) ∙ ap not (false_if _ (λ e. broken (sym (full_has sc.control (full a.name x)) ∙ plain _ e)));
            functions = record { functions = functions.functions };
          }

      at_params : (ps : List (PTy × List ℕ)) (u : Scope) (hides : Hides) → IsAt NewIn u (in_action sc a) hides → ((m : List ℕ) → is_among (params_in ps) m ≡ true → NewIn m) → IsAt NewIn (with_params u ps) (in_action sc a) (shows_params hides (map (param_under (in_action sc a)) ps))
      at_params [] u hides b new = b
      at_params (p ∷ ps) u hides b new =
          at_params ps (declare u p.1 (value Fixed p.0)) (shows hides (first_name (in_action sc a) p.1))
          (at_more (flags_in flags.left (returned_in flags) n) has_point NewIn (in_action sc a) own_action u hides p.1 Fixed p.0 b (new p.1 (among_head p.1 (params_in ps))))
          (λ m i. new m (among_right (p.1 ∷ []) (params_in ps) m i))

      params_flags : (ps : List (PTy × List ℕ)) → ((m : List ℕ) → is_among (params_in ps) m ≡ true → NewIn m) → AllByRecursion (λ p. is_flag (flags_in flags.left (returned_in flags) n) p.name ≡ false) (map (param_under (in_action sc a)) ps)
      params_flags [] new = tt
      params_flags (p ∷ ps) new = (own_action.no_flag p.1 (new p.1 (among_head p.1 (params_in ps))), params_flags ps (λ m i. new m (among_right (p.1 ∷ []) (params_in ps) m i)))

      pub action_free : is_among sc.own a.name ≡ true → OldFields is_given a.params → ((m : List ℕ) → is_among (names_in a.body) m ≡ true → is_given m ≡ true) → ActionUses UseAgrees s a → IsFreeAction flags.left (returned_in flags) has_point seen (action_under sc a)
      action_free named given_params given_body u =
          subst (λ (y : List ℕ). IsFreeAction flags.left (returned_in flags) has_point seen (record { name = y; params = map (param_under (in_action sc a)) a.params; body = stmts_under (in_action sc a) a.body }))
          (sym (ap (λ (b : Bool). cond b n a.name) named))
          (record {
            two = other_text (returned_in flags n) flags.left (λ e. point_other (returned_in flags n) flags.left (full_has n flags.returned) refl e);
            flag_own = full_has n flags.returned;
            params = params_flags a.params new_param;
            body =
                block_free (flags_in flags.left (returned_in flags) n) has_point NewIn (in_action sc a) own_action a.body place.Action action_run (with_params s a.params) (shows_params (all_but seen) (map (param_under (in_action sc a)) a.params))
                (at_params a.params s (all_but seen) begins new_param)
                (λ m i. (among_right (params_in a.params) (names_in a.body) m i, given_body m i)) f.1.1 u.1;
          })
        where
          new_param : (m : List ℕ) → is_among (params_in a.params) m ≡ true → NewIn m
          new_param m i = (among_left (params_in a.params) (names_in a.body) m i, old_params is_given m a.params given_params i)

-- ---- the variables of a control

-- declarations alone
pub are_vars : (ls : List Local) (sd : meaning.Scope) → AreVars (settings_under sd ls)
are_vars [] sd = tt
are_vars (local_var p t x e ∷ ls) sd = are_vars ls sd
are_vars (l ∷ ls) sd = are_vars ls (behind_local sd l)

-- the names that free declarations set are names that may be declared
pub vars_may : (may : List ℕ → Bool) (ss rest : Stmts) (hides : Hides) → AreFreeStmts flags may hides (and_then ss rest) → (y : List ℕ) → is_among (var_names ss) y ≡ true → may y ≡ true
vars_may may done rest hides f y i = broken (sym i)
vars_may may (next (var p t x e) ss) rest hides f y i = go (same_text x y) refl i (λ k. vars_may may ss rest _ f.1 y k)
  where
    go : (b : Bool) → same_text x y ≡ b → (b || is_among (var_names ss) y) ≡ true → (is_among (var_names ss) y ≡ true → may y ≡ true) → may y ≡ true
    go true e k more = subst (λ (z : List ℕ). may z ≡ true) (text_is x y e) f.0.0.may_be
    go false e k more = more k
vars_may may (next c ss) rest hides f y i = vars_may may ss rest _ f.1 y i

module _ (pt : Parts) (r : Roots) (c : List ℕ) where
  -- what a control declares goes by its plain name
  abbrev pub NewHere : List ℕ → Type 0
  NewHere x = (root_of r x ≡ x) × (is_given x ≡ true) × (is_plain x ≡ true)

  first_is : (sd : meaning.Scope) → IsControl sd r → (x : List ℕ) → NewHere x → first_name sd x ≡ x
  first_is sd k x h = (let inner = k.inner in let roots = k.roots in let same = h.0 in cc)

  pub own_here : (sd : meaning.Scope) → IsControl sd r → AreOwn sd flags (is_other has_point) NewHere
  own_here sd k =
      record {
        apart = λ x y h i e. sym (first_is sd k x h) ∙ e ∙ first_is sd k y i;
        no_flag = λ x h. ap (λ (y : List ℕ). is_flag flags y) (first_is sd k x h) ∙ given_no_flag x h.1;
        may_be = λ x h. ap (λ (y : List ℕ). is_other has_point y) (first_is sd k x h) ∙ h.2;
      }

  -- a new name of a text
  pub new_here : (s : Scope) (sd : meaning.Scope) → IsPlaced pt r s sd → (x : List ℕ) → is_missing (s (x ∷ [])) ≡ true → is_given x ≡ true → is_plain x ≡ true → NewHere x
  new_here s sd b x m given plain = (root_free s r b.hidden x (inr m), given, plain)

  -- seen: the variables of the whole control
  module _ (seen : List ℕ → Bool) where
    -- what is known in front of declarations
    pub record IsBefore (s : Scope) (sd : meaning.Scope) (ls : List Local) (hides : Hides) : Type 0 where
      pub placed : IsPlaced pt r s sd
      pub at : IsAt NewHere s sd hides
      pub seen_there : Sees s sd (all_but seen)
      pub knows : Knows c sd ls
      pub vars : (y : List ℕ) → is_among (var_names (settings_under sd ls)) y ≡ true → seen y ≡ true

    -- what a declaration shows
    abbrev shows_local : meaning.Scope → Hides → Local → Hides
    shows_local sd hides (local_var p t x e) = shows hides (first_name sd x)
    shows_local sd hides _ = hides

    at_local : (s : Scope) (sd : meaning.Scope) (l : Local) (ls : List Local) (hides : Hides) → IsBefore s sd (l ∷ ls) hides → OldLocal is_given l → OldLocal is_plain l → IsFine (local_tests place.Apply s l) → IsAt NewHere (after_local s l) (behind_local sd l) (shows_local sd hides l)
    at_local s sd (local_var p t x e) ls hides b given plain f = at_more flags (is_other has_point) NewHere sd (own_here sd b.placed.control) s hides x Writable t b.at (new_here s sd b.placed x (twice_not _ f.1.0) given.1 plain.1)
    at_local s sd (local_const p t x e) ls hides b given plain f =
        record {
          sees = sees_constant sd t x e b.placed.control.inner s hides b.at.sees;
          hidden = λ y k m. b.at.hidden y k (was_missing s x (value Constant t) refl y m).before;
          functions = record { functions = (functions_declared s sd x (value Constant t) b.at.functions (λ g k. absurd (cc))).functions };
        }
    at_local s sd l ls hides b given plain f = record { sees = sees_quiet s sd hides _ _ b.at.sees refl; hidden = λ y k m. b.at.hidden y k (was_missing s _ _ refl y m).before; functions = functions_declared s sd _ _ b.at.functions (λ g k. absurd (cc)) }

    seen_local : (s : Scope) (sd : meaning.Scope) (l : Local) (ls : List Local) (hides : Hides) → IsBefore s sd (l ∷ ls) hides → Sees (after_local s l) (behind_local sd l) (all_but seen)
    seen_local s sd (local_var p t x e) ls hides b =
        (let it = ap not (b.vars (first_name sd x) (among_head (first_name sd x) (var_names (settings_under sd ls)))) in
        sees_declared s sd sd (all_but seen) (all_but seen) x (value Writable t) b.seen_there (λ q h. h) (λ y. refl) (λ y e c. c) (λ r k. it))
    seen_local s sd (local_const p t x e) ls hides b = sees_constant sd t x e b.placed.control.inner s (all_but seen) b.seen_there
    seen_local s sd l ls hides b = sees_quiet s sd (all_but seen) _ _ b.seen_there refl

    vars_local : (sd : meaning.Scope) (l : Local) (ls : List Local) → ((y : List ℕ) → is_among (var_names (settings_under sd (l ∷ ls))) y ≡ true → seen y ≡ true) → (y : List ℕ) → is_among (var_names (settings_under (behind_local sd l) ls)) y ≡ true → seen y ≡ true
    vars_local sd (local_var p t x e) ls h y i = h y (among_tail (first_name sd x) (var_names (settings_under sd ls)) y i)
    vars_local sd l ls h y i = h y i

    next_before : (s : Scope) (sd : meaning.Scope) (l : Local) (ls : List Local) (hides : Hides) → IsBefore s sd (l ∷ ls) hides → OldLocal is_given l → OldLocal is_plain l → IsFine (local_tests place.Apply s l) → IsBefore (after_local s l) (behind_local sd l) ls (shows_local sd hides l)
    next_before s sd l ls hides b given plain f =
        record { placed = placed_more pt r s sd l b.placed (local_names (λ x. Unit {0}) IsPlain (λ x h. tt) (λ x h. h) l plain) f; at = at_local s sd l ls hides b given plain f; seen_there = seen_local s sd l ls hides b; knows = knows_rest c sd l ls b.knows; vars = vars_local sd l ls b.vars }

    -- the variables, and then the body
    pub settings_free : (rest : Stmts) (ls : List Local) (s : Scope) (sd : meaning.Scope) (hides : Hides) → IsBefore s sd ls hides → OldLocals is_given ls → OldLocals is_plain ls → IsFine (locals_tests place.Apply s ls) → LocalsUses UseAgrees s ls
        → ((end : Hides) → IsBefore (after_locals s ls) (behind_locals sd ls) [] end → AreFreeStmts flags (is_other has_point) end rest) → AreFreeStmts flags (is_other has_point) hides (and_then (settings_under sd ls) rest)
    settings_free rest [] s sd hides b given plain f u more = more hides b
    settings_free rest (local_var p t x e ∷ ls) s sd hides b given plain f u more = (
      (
        name_free flags (is_other has_point) NewHere sd (own_here sd b.placed.control) s hides x b.at (new_here s sd b.placed x (twice_not _ f.0.1.0) given.0.1 plain.0.1) (twice_not _ f.0.1.0),
        start_free s sd hides b.at.sees _ e u.0.1,
      ),
      settings_free rest ls _ sd (shows hides (first_name sd x)) (next_before s sd (local_var p t x e) ls hides b given.0 plain.0 f.0) given.1 plain.1 f.1 u.1 more,
    )
    settings_free rest (l ∷ ls) s sd hides b given plain f u more = settings_free rest ls _ (behind_local sd l) hides (next_before s sd l ls hides b given.0 plain.0 f.0) given.1 plain.1 f.1 u.1 more

    -- no variable has a point in its name
    pub actions_free : ((y : List ℕ) → seen y ≡ true → has_point y ≡ false) → (ls : List Local) (s : Scope) (sd : meaning.Scope) (hides : Hides) → IsBefore s sd ls hides → OldLocals is_given ls → OldLocals is_plain ls → IsFine (locals_tests place.Apply s ls) → LocalsUses UseAgrees s ls
        → AllByRecursion (IsFreeAction flags.left (returned_in flags) has_point seen) (actions_in sd ls)
    actions_free dots [] s sd hides b given plain f u = tt
    actions_free dots (local_action p a ∷ ls) s sd hides b given plain f u = (
      action_free seen dots s sd b.placed.control.inner b.seen_there b.at.functions a f.0.1 (b.knows.names a.name (among_head a.name (own_names ls))) given.0.1 (λ m i. old_names is_given m a.body given.0.2 i) u.0,
      actions_free dots ls _ sd hides (next_before s sd (local_action p a) ls hides b given.0 plain.0 f.0) given.1 plain.1 f.1 u.1,
    )
    actions_free dots (l ∷ ls) s sd hides b given plain f u = actions_free dots ls _ (behind_local sd l) (shows_local sd hides l) (next_before s sd l ls hides b given.0 plain.0 f.0) given.1 plain.1 f.1 u.1

    keys_free : (s : Scope) (sd : meaning.Scope) → Sees s sd (all_but seen) → (ks : List (Expr × List ℕ)) → KeyUses UseAgrees s ks → AllByRecursion (λ k. IsFreeExpr (all_but seen) k.value) (map (key_under sd) ks)
    keys_free s sd sees [] u = tt
    keys_free s sd sees (k ∷ ks) u = (expr_free s sd (all_but seen) sees k.0 u.0.names, keys_free s sd sees ks u.1)

    pub tables_free : (as' : List Action) (ls : List Local) (s : Scope) (sd : meaning.Scope) (hides : Hides) → IsBefore s sd ls hides → OldLocals is_given ls → OldLocals is_plain ls → IsFine (locals_tests place.Apply s ls) → LocalsUses UseAgrees s ls
        → AllByRecursion (IsFreeTable seen) (tables_in sd as' ls)
    tables_free as' [] s sd hides b given plain f u = tt
    tables_free as' (local_table p t ∷ ls) s sd hides b given plain f u = (keys_free s sd b.seen_there t.keys u.0.0, tables_free as' ls _ sd hides (next_before s sd (local_table p t) ls hides b given.0 plain.0 f.0) given.1 plain.1 f.1 u.1)
    tables_free as' (l ∷ ls) s sd hides b given plain f u = tables_free as' ls _ (behind_local sd l) (shows_local sd hides l) (next_before s sd l ls hides b given.0 plain.0 f.0) given.1 plain.1 f.1 u.1
