-- An action begins in a store that fits: its parameters have words of their widths, at places that nothing else has.
use Rattle.std.proofs.Common.{◌≡◌, inl, inr, ℕ, List, [], ◌∷◌, ◌++◌, map, Bool, true, false, cond, ◌||◌, Option, None, refl, sym, ap, ◌∙◌, subst, pow_pos}
use Rattle.bit_values.specs.Bits.{Word, word}
use Rattle.bit_values.specs.Widths.{sound_width, cast_word}
use Rattle.lex_text.specs.Names.{same_text}
use Rattle.rule_tests.specs.Tests.{IsFine}
use Rattle.p4_tree.specs.Tree as tree
use Rattle.p4_tree.specs.declared.statement.PTy.{PTy}
use Rattle.p4_meaning.specs.Store.{Store, set_value}
use Rattle.p4_meaning.specs.Value.{width_of}
use Rattle.p4_meaning.specs.Statements.{no_calls, in_store}
use Rattle.p4_meaning.specs.Scope as meaning
use Rattle.p4_meaning.specs.Scope.{Roots, Inner, root_of, is_among, is_inner, inner_name, full, constant_named, constant_at, first_name, path_under, names_in, type_under}
use Rattle.p4_meaning.specs.Actions.{params_in, in_action, param_under, action_under, bound}
use Rattle.p4_meaning.specs.Parts.{Parts}
use Rattle.p4_meaning.specs.Laws.{IsOf}
use Rattle.p4_meaning.proofs.Words.{sound, sound_wide, sound_narrow, cast_is_word}
use Rattle.p4_scopes.specs.Scopes.{is_missing, value_kind, kind_in, Scope, value, behind, declare}
use Rattle.p4_scopes.specs.Uses.{reads}
use Rattle.p4_scopes.specs.declared.thing.Access.TheVariants.{Fixed}
use Rattle.p4_statement_rules.specs.Expressions.{scalar_tests}
use Rattle.p4_statement_rules.specs.declared.rule.Part.{Part}
use Rattle.p4_declaration_rules.specs.Declarations.{params_tests, with_params, action_tests}
use Rattle.p4_typing_laws.specs.Soundness.{kind_width, IsSound}
use Rattle.p4_typing_laws.specs.Tied.{IsTied}
use Rattle.p4_typing_laws.specs.Plain.{has_point}
use Rattle.p4_typing_laws.specs.Stores.{Fits}
use Rattle.p4_typing_laws.specs.Along.{IsFlat}
use Rattle.p4_typing_laws.specs.Runs.{ActionRuns}
use Rattle.p4_typing_laws.proofs.Fine.{twice_not}
use Rattle.p4_typing_laws.proofs.StaticWidths.{sound_width_of}
use Rattle.p4_typing_laws.proofs.SoundScopes.{kind_sound, value_sound, params_sound}
use Rattle.p4_typing_laws.proofs.CallCounts.{text_is, text_same}
use Rattle.p4_typing_laws.proofs.FullNames.{plain_no_point}
use Rattle.p4_typing_laws.proofs.CountedNames.{other_kept}
use Rattle.p4_typing_laws.proofs.TiedNames.{value_tied, fixed_no_constant, type_width, inner_missing, enter_tied, in_action_tied}
use Rattle.p4_typing_laws.proofs.KeptPlaces.{path_same, set_keeps, HasPlaces, ParamsSpare, standard_kept, bound_keeps}
use Rattle.p4_typing_laws.proofs.AlongRuns.{among_left, among_right, Read, fits_kept, flat_type, along}
use Rattle.p4_typing_laws.proofs.KnownScopes.{flat_declare}
use Rattle.p4_typing_laws.proofs.ReadyPlaces.{full_one, root_free, inner_point, bare_calls, action_places}
use Rattle.p4_typing_laws.proofs.RunPlaces.{IsPlaced}

broken : {A : Type 0} → true ≡ false → A
broken h = absurd (cc)

-- ---- the standard metadata

-- paths of two names and more
abbrev IsLong : List (List ℕ) → Type 0
IsLong [] = ⊥
IsLong (x ∷ []) = ⊥
IsLong (x ∷ y ∷ rest) = Unit {0}

long_places : HasPlaces IsLong
long_places = record { spec = tt; error = tt }

-- ---- one parameter

-- behind a parameter's word the store fits what is in sight now
param_fits : (p : Parts) (at : ℕ) (t : Scope) (sa : meaning.Scope) (ty : PTy) (n : List ℕ) (v : Word) (st : Store) → IsFlat t → IsFine (scalar_tests at t ty) → IsOf (kind_width (kind_in t ty)) v
    → Fits t sa (set_value st (first_name sa n ∷ []) v) → Fits (declare t n (value Fixed ty)) sa (set_value st (first_name sa n ∷ []) v)
unfolding declare
param_fits p at t sa ty n v st flat f is old = record { values = λ x h r c. fit x h r c; headers = old.headers }
  where
    new_one : (xs : List (List ℕ)) → is_missing (behind t (value Fixed ty) xs) ≡ false → IsOf (kind_width (value_kind (behind t (value Fixed ty) xs))) ((set_value st (first_name sa n ∷ []) v).values (first_name sa n ∷ xs))
    new_one [] h = subst (λ (c : Bool). IsOf (kind_width (kind_in t ty)) (cond c v (st.values (first_name sa n ∷ [])))) (sym (path_same (first_name sa n ∷ []) (first_name sa n ∷ []) refl)) is
    new_one (z ∷ zs) h = (let c : true ≡ false = sym (flat_type Fixed t flat at ty f z zs) ∙ h in absurd (cc))

    go : (y : List ℕ) (xs : List (List ℕ)) (c : Bool) → same_text n y ≡ c → is_missing (cond c (behind t (value Fixed ty) xs) (t (y ∷ xs))) ≡ false → reads (cond c (behind t (value Fixed ty) xs) (t (y ∷ xs))) ≡ true → constant_at sa (y ∷ xs) ≡ None
        → IsOf (kind_width (value_kind (cond c (behind t (value Fixed ty) xs) (t (y ∷ xs))))) ((set_value st (first_name sa n ∷ []) v).values (first_name sa y ∷ xs))
    go y xs true i h r k = subst (λ (m : List ℕ). IsOf (kind_width (value_kind (behind t (value Fixed ty) xs))) ((set_value st (first_name sa n ∷ []) v).values (first_name sa m ∷ xs))) (text_is n y i) (new_one xs h)
    go y xs false i h r k = old.values (y ∷ xs) h r k

    fit : (x : List (List ℕ)) → is_missing (declare t n (value Fixed ty) x) ≡ false → reads (declare t n (value Fixed ty) x) ≡ true → constant_at sa x ≡ None
        → IsOf (kind_width (value_kind (declare t n (value Fixed ty) x))) ((set_value st (first_name sa n ∷ []) v).values (path_under sa x))
    fit [] h r k = old.values [] h r k
    fit (y ∷ xs) h r k = go y xs (same_text n y) refl h r k

-- ---- an action

module _ (pt : Parts) (r : Roots) (s : Scope) (sd : meaning.Scope) (b : IsPlaced pt r s sd) (a : tree.Action) where
  abbrev Names : List (List ℕ)
  Names = params_in a.params ++ names_in a.body

  inner_is : (x : List ℕ) → is_among Names x ≡ true → first_name (in_action sd a) x ≡ full sd.control (full a.name x)
  inner_is x i = ap (λ (c : Bool). cond c (full sd.control (full a.name x)) (root_of sd.roots x)) i

  outer_is : (x : List ℕ) → is_among Names x ≡ false → first_name (in_action sd a) x ≡ root_of sd.roots x
  outer_is x i = ap (λ (c : Bool). cond c (full sd.control (full a.name x)) (root_of sd.roots x)) i

  control_is : (x : List ℕ) → first_name sd x ≡ root_of sd.roots x
  control_is x = ap (λ (i : Option Inner). cond (is_inner i x) (inner_name i sd.control x) (root_of sd.roots x)) b.control.inner

  module _ (h : Part) (f : IsFine (action_tests h s a)) where
    -- a path that stands for something begins with no name of the action
    head_outer : (y : List ℕ) (xs : List (List ℕ)) → is_missing (s (y ∷ xs)) ≡ false → is_among Names y ≡ false
    head_outer y xs k = go (is_among Names y) refl
      where
        there : (zs : List (List ℕ)) → is_missing (s (y ∷ zs)) ≡ false → is_missing (s (y ∷ [])) ≡ true → ⊥
        there [] i m = let c : true ≡ false = sym m ∙ i in cc
        there (z ∷ zs) i m = let c : true ≡ false = sym (b.known.rooted.rooted y m z zs) ∙ i in cc

        go : (c : Bool) → is_among Names y ≡ c → is_among Names y ≡ false
        go true i = absurd (there xs k (inner_missing h s a f y i))
        go false i = i

    -- in the action the store fits what was in sight in front of it
    enter_fits : (st : Store) → Fits s sd st → Fits s (in_action sd a) st
    enter_fits st fits = record { values = λ x k i c. at x k i c; headers = fits.headers }
      where
        constant : (y : List ℕ) (xs : List (List ℕ)) → is_among Names y ≡ false → constant_at (in_action sd a) (y ∷ xs) ≡ None → constant_at sd (y ∷ xs) ≡ None
        constant y [] o c =
            ap (λ (i : Option Inner). cond (is_inner i y) None (constant_named sd.constants y)) b.control.inner
            ∙ sym (ap (λ (i : Bool). cond i None (constant_named sd.constants y)) o) ∙ c
        constant y (z ∷ zs) o c = refl

        at : (x : List (List ℕ)) → is_missing (s x) ≡ false → reads (s x) ≡ true → constant_at (in_action sd a) x ≡ None → IsOf (kind_width (value_kind (s x))) (st.values (path_under (in_action sd a) x))
        at [] k i c = fits.values [] k i refl
        at (y ∷ xs) k i c =
            (let o = head_outer y xs k in
            subst (λ (z : List ℕ). IsOf (kind_width (value_kind (s (y ∷ xs)))) (st.values (z ∷ xs))) (control_is y ∙ sym (outer_is y o)) (fits.values (y ∷ xs) k i (constant y xs o c)))

    -- what is known behind some parameters
    record Grown (t : Scope) : Type 0 where
      tied : IsTied pt t (in_action sd a)
      sound : IsSound t
      flat : IsFlat t
      outer : (x : List ℕ) → is_among Names x ≡ false → t (x ∷ []) ≡ s (x ∷ [])

    -- a parameter's place is that of no name that is read
    apart : (t : Scope) → Grown t → (n : List ℕ) → is_among Names n ≡ true → is_missing (t (n ∷ [])) ≡ true → (x : List ℕ) → is_missing (t (x ∷ [])) ≡ false → reads (t (x ∷ [])) ≡ true → first_name (in_action sd a) x ≡ first_name (in_action sd a) n → ⊥
    apart t g n i new x k j e = go (is_among Names x) refl
      where
        go : (c : Bool) → is_among Names x ≡ c → ⊥
        go true o =
            (let same : x ≡ n = full_one a.name x n (full_one sd.control (full a.name x) (full a.name n) (sym (inner_is x o) ∙ e ∙ inner_is n i)) in
            let c : true ≡ false = sym new ∙ sym (ap (λ (y : List ℕ). is_missing (t (y ∷ []))) same) ∙ k in cc)
        go false o =
            (let missing_not : is_missing (s (x ∷ [])) ≡ false = sym (ap is_missing (g.outer x o)) ∙ k in
            let read : reads (s (x ∷ [])) ≡ true = sym (ap reads (g.outer x o)) ∙ j in
            let free = ap (λ (q : Roots). root_of q x) b.control.roots ∙ root_free s r b.hidden x (inl (missing_not, read)) in
            let no_dot = ap has_point (outer_is x o ∙ free) ∙ plain_no_point x (b.known.plain.plain x missing_not read) in
            let c : false ≡ true = sym no_dot ∙ ap has_point e ∙ inner_point sd a n i in cc)

    param_kept : (t : Scope) → Grown t → (n : List ℕ) → is_among Names n ≡ true → is_missing (t (n ∷ [])) ≡ true → (st : Store) (v : Word) → Fits t (in_action sd a) st → Fits t (in_action sd a) (set_value st (first_name (in_action sd a) n ∷ []) v)
    param_kept t g n i new st v fits = fits_kept t (in_action sd a) st (set_value st (first_name (in_action sd a) n ∷ []) v) (set_keeps (Read t (in_action sd a)) st (first_name (in_action sd a) n ∷ []) v (λ k. absurd (no k))) fits.headers fits
      where
        no : Read t (in_action sd a) (first_name (in_action sd a) n ∷ []) → ⊥
        no (x, (inl k, e)) = apart t g n i new x k.0 k.1 e
        no (x, (inr k, e)) = broken (sym k)

    grown_more : (t : Scope) → Grown t → (ty : PTy) (n : List ℕ) → is_among Names n ≡ true → is_missing (t (n ∷ [])) ≡ true → IsFine (scalar_tests a.at t ty) → Grown (declare t n (value Fixed ty))
    grown_more t g ty n i new fine =
        record {
          tied = value_tied pt t (in_action sd a) n Fixed ty fixed_no_constant g.tied new;
          sound = value_sound a.at t g.sound n Fixed ty fine.0;
          flat = flat_declare t n (value Fixed ty) g.flat (λ e x xs. broken (sym e));
          outer = λ x o. other_kept t n (value Fixed ty) x (λ e. (let c : true ≡ false = sym i ∙ ap (is_among Names) e ∙ o in cc)) ∙ g.outer x o;
        }

    -- the width of a parameter's word
    param_wide : (t : Scope) → Grown t → (ty : PTy) → IsFine (scalar_tests a.at t ty) → sound_width (width_of (type_under (in_action sd a).types ty)) ≡ kind_width (kind_in t ty)
    param_wide t g ty fine =
        (let k = sound_width_of (kind_in t ty) (kind_sound a.at t g.sound ty fine) in
        ap sound_width (type_width pt t (in_action sd a) g.tied a.at ty fine) ∙ sound (kind_width (kind_in t ty)) k.least k.most)

    param_word : (t : Scope) → Grown t → (ty : PTy) → IsFine (scalar_tests a.at t ty) → (v : Word) → IsOf (sound_width (width_of (type_under (in_action sd a).types ty))) v → IsOf (kind_width (kind_in t ty)) v
    param_word t g ty fine v is = subst (λ (n : ℕ). IsOf n v) (param_wide t g ty fine) is

    zero_is : (n : ℕ) → IsOf (sound_width n) (word (sound_width n) 0)
    zero_is n = record { word = record { wide = sound_wide n; narrow = sound_narrow n; in_range = pow_pos (sound_width n) }; width = refl }

    cast_is : (n : ℕ) (w : Word) → IsOf (sound_width n) (cast_word (sound_width n) w)
    cast_is n w = record { word = cast_is_word n w; width = refl }

    head_among : (n : List ℕ) (ns : List (List ℕ)) → is_among (n ∷ ns) n ≡ true
    head_among n ns = ap (λ (c : Bool). c || is_among ns n) (text_same n n refl)

    params_fit : (ps : List (PTy × List ℕ)) → ((m : List ℕ) → is_among (params_in ps) m ≡ true → is_among Names m ≡ true) → (t : Scope) → Grown t → IsFine (params_tests a.at t ps) → (ws : List Word) (st : Store) → Fits t (in_action sd a) st
        → Fits (with_params t ps) (in_action sd a) (bound (map (param_under (in_action sd a)) ps) ws st)
    params_fit [] sub t g fine ws st fits = fits
    params_fit (q ∷ ps) sub t g fine [] st fits =
        let v = word (sound_width (width_of (type_under (in_action sd a).types q.0))) 0 in
        let i = sub q.1 (head_among q.1 (params_in ps)) in
        let new = twice_not _ fine.0.0 in
        params_fit ps (λ m k. sub m (among_right (q.1 ∷ []) (params_in ps) m k)) (declare t q.1 (value Fixed q.0)) (grown_more t g q.0 q.1 i new fine.0.1) fine.1 [] (set_value st (first_name (in_action sd a) q.1 ∷ []) v)
        (param_fits pt a.at t (in_action sd a) q.0 q.1 v st g.flat fine.0.1 (param_word t g q.0 fine.0.1 v (zero_is (width_of (type_under (in_action sd a).types q.0)))) (param_kept t g q.1 i new st v fits))
    params_fit (q ∷ ps) sub t g fine (w ∷ ws) st fits =
        let v = cast_word (sound_width (width_of (type_under (in_action sd a).types q.0))) w in
        let i = sub q.1 (head_among q.1 (params_in ps)) in
        let new = twice_not _ fine.0.0 in
        params_fit ps (λ m k. sub m (among_right (q.1 ∷ []) (params_in ps) m k)) (declare t q.1 (value Fixed q.0)) (grown_more t g q.0 q.1 i new fine.0.1) fine.1 ws (set_value st (first_name (in_action sd a) q.1 ∷ []) v)
        (param_fits pt a.at t (in_action sd a) q.0 q.1 v st g.flat fine.0.1 (param_word t g q.0 fine.0.1 v (cast_is (width_of (type_under (in_action sd a).types q.0)) w)) (param_kept t g q.1 i new st v fits))

    params_flat : (ps : List (PTy × List ℕ)) (t : Scope) → IsFlat t → IsFlat (with_params t ps)
    params_flat [] t g = g
    params_flat (q ∷ ps) t g = params_flat ps (declare t q.1 (value Fixed q.0)) (flat_declare t q.1 (value Fixed q.0) g (λ e x xs. broken (sym e)))

    long_spare : (ps : List (PTy × List ℕ)) → ParamsSpare IsLong (map (param_under (in_action sd a)) ps)
    long_spare [] = tt
    long_spare (q ∷ ps) = ((λ k. k), long_spare ps)

    -- S, SD: in sight in the control's body
    pub action_runs : (S : Scope) (SD : meaning.Scope) → ((st : Store) → Fits S SD st → Fits s sd st) → IsTied pt s sd → ActionRuns S SD s sd a
    action_runs S SD back tied ws q fits st =
        along pt no_calls (in_action sd a) a.body h (with_params s a.params)
        (record {
          tied = in_action_tied pt h s sd a (record { inner = b.control.inner }) tied f;
          sound = params_sound a.at a.params s b.known.sound f.1.0;
          flat = params_flat a.params s b.known.flat;
          places = action_places s sd r b.control b.hidden b.known.plain a;
          calls_leave = bare_calls _;
        }) f.1.1 (in_store q (bound (action_under sd a).params ws q.store))
        (params_fit a.params (λ m k. among_left (params_in a.params) (names_in a.body) m k) s
        (record { tied = enter_tied pt h s sd a (record { inner = b.control.inner }) tied f; sound = b.known.sound; flat = b.known.flat; outer = λ x o. refl }) f.1.0 ws q.store (enter_fits q.store (back q.store fits)))
        (standard_kept IsLong long_places q.store (bound (action_under sd a).params ws q.store) (bound_keeps IsLong (action_under sd a).params ws q.store (long_spare a.params)) st)
