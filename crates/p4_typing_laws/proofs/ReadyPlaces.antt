-- Names of a control and of an action have places of their own in a store: what a control declares goes by its plain name,
-- what an action declares by its full one.
use Rattle.std.proofs.Common.{◌≡◌, ◌⊎◌, inl, inr, ℕ, List, [], ◌∷◌, ◌++◌, map, Bool, true, false, cond, ◌||◌, Option, None, refl, sym, ap, ◌∙◌}
use Rattle.std.proofs.lemmas.List.{append_cancel_right}
use Rattle.lex_text.specs.Names.{same_text}
use Rattle.p4_tree.specs.Tree as tree
use Rattle.p4_tree.specs.Tree.{Local, local_action, local_table, local_register, local_const, local_var, Top, constant, typedef, header_type, struct_type, register, parser, control}
use Rattle.p4_tree.specs.declared.statement.PTy.{PTy}
use Rattle.p4_meaning.specs.Standard.{headers_root, metadata_root, standard_root}
use Rattle.p4_meaning.specs.Statements.{no_calls}
use Rattle.p4_meaning.specs.Scope as meaning
use Rattle.p4_meaning.specs.Scope.{Roots, Inner, root_of, is_among, is_inner, full, inner_name, first_name, names_in}
use Rattle.p4_meaning.specs.Under.{behind_top, behind_local, in_control}
use Rattle.p4_meaning.specs.Actions.{Action, params_in, in_action, param_under, action_under, actions_in, actions_of}
use Rattle.p4_meaning.specs.Tables.{Table, Tables, calls_in}
use Rattle.p4_scopes.specs.Scopes.{is_missing, Scope, value, declare}
use Rattle.p4_scopes.specs.Uses.{reads}
use Rattle.p4_scopes.specs.declared.thing.Access.TheVariants.{Fixed}
use Rattle.p4_declaration_rules.specs.Declarations.{with_params}
use Rattle.p4_typing_laws.specs.Plain.{has_point, IsPlain}
use Rattle.p4_typing_laws.specs.Along.{IsNameOf, IsPlaceOf, HavePlaces, CallsLeave}
use Rattle.p4_typing_laws.proofs.CallCounts.{text_same}
use Rattle.p4_typing_laws.proofs.FullNames.{full_has, plain_no_point, other_text}
use Rattle.p4_typing_laws.proofs.CountedNames.{other_kept}
use Rattle.p4_typing_laws.proofs.KeptPlaces.{keeps_same, HasPlaces, ParamsSpare, SpareAll, Spares, calls_keep, calls_none}
use Rattle.p4_typing_laws.proofs.AlongRuns.{among_left, among_right, block_spares}
use Rattle.p4_typing_laws.proofs.KnownScopes.{ReadsPlain}

broken : {A : Type 0} → true ≡ false → A
broken h = absurd (cc)

pub full_one : (c x y : List ℕ) → full c x ≡ full c y → x ≡ y
full_one c x y e = append_cancel_right x y (46 ∷ c) e

-- ---- controls

-- the names of the parameters stand for something, which is not read
pub record AreHidden (s : Scope) (r : Roots) : Type 0 where
  pub headers : (is_missing (s (r.headers ∷ [])) ≡ false) × (reads (s (r.headers ∷ [])) ≡ false)
  pub metadata : (is_missing (s (r.metadata ∷ [])) ≡ false) × (reads (s (r.metadata ∷ [])) ≡ false)
  pub standard : (is_missing (s (r.standard ∷ [])) ≡ false) × (reads (s (r.standard ∷ [])) ≡ false)

root_other : (r : Roots) (x : List ℕ) → (r.headers ≡ x → ⊥) → (r.metadata ≡ x → ⊥) → (r.standard ≡ x → ⊥) → root_of r x ≡ x
root_other r x h m n = go (same_text r.headers x) (same_text r.metadata x) (same_text r.standard x) (other_text r.headers x h) (other_text r.metadata x m) (other_text r.standard x n)
  where
    go : (a b c : Bool) → a ≡ false → b ≡ false → c ≡ false → cond a headers_root (cond b metadata_root (cond c standard_root x)) ≡ x
    go true b c i j k = absurd (cc)
    go false true c i j k = absurd (cc)
    go false false true i j k = absurd (cc)
    go false false false i j k = refl

-- a name that is read or new is no parameter's
abbrev pub IsFree : Scope → List ℕ → Type 0
IsFree s x = ((is_missing (s (x ∷ [])) ≡ false) × (reads (s (x ∷ [])) ≡ true)) ⊎ (is_missing (s (x ∷ [])) ≡ true)

not_hidden : (s : Scope) (n x : List ℕ) → (is_missing (s (n ∷ [])) ≡ false) × (reads (s (n ∷ [])) ≡ false) → IsFree s x → n ≡ x → ⊥
not_hidden s n x h (inl k) e = (let c : true ≡ false = sym k.1 ∙ sym (ap (λ (y : List ℕ). reads (s (y ∷ []))) e) ∙ h.1 in cc)
not_hidden s n x h (inr k) e = (let c : true ≡ false = sym k ∙ sym (ap (λ (y : List ℕ). is_missing (s (y ∷ []))) e) ∙ h.0 in cc)

pub root_free : (s : Scope) (r : Roots) → AreHidden s r → (x : List ℕ) → IsFree s x → root_of r x ≡ x
root_free s r h x f = root_other r x (not_hidden s r.headers x h.headers f) (not_hidden s r.metadata x h.metadata f) (not_hidden s r.standard x h.standard f)

-- no action is around, and these are the roots
pub record IsControl (sc : meaning.Scope) (r : Roots) : Type 0 where
  pub inner : sc.inner ≡ None
  pub roots : sc.roots ≡ r

pub first_free : (s : Scope) (sc : meaning.Scope) (r : Roots) → IsControl sc r → AreHidden s r → (x : List ℕ) → IsFree s x → first_name sc x ≡ x
first_free s sc r c h x f =
    ap (λ (i : Option Inner). cond (is_inner i x) (inner_name i sc.control x) (root_of sc.roots x)) c.inner
    ∙ ap (λ (q : Roots). root_of q x) c.roots ∙ root_free s r h x f

pub control_places : (s : Scope) (sc : meaning.Scope) (r : Roots) → IsControl sc r → AreHidden s r → (xs : List (List ℕ)) → ((m : List ℕ) → is_among xs m ≡ true → is_missing (s (m ∷ [])) ≡ true) → HavePlaces s sc xs
control_places s sc r c h xs new =
    record {
      apart = λ x y i j e. sym (first_free s sc r c h x (inr (new x i))) ∙ e ∙ first_free s sc r c h y (inr (new y j));
      unread = λ x y i k j e. sym (first_free s sc r c h x (inl (i, k))) ∙ e ∙ first_free s sc r c h y (inr (new y j));
    }

-- ---- what actions declare has names with points

pub inner_point : (sc : meaning.Scope) (a : tree.Action) (x : List ℕ) → is_among (params_in a.params ++ names_in a.body) x ≡ true → has_point (first_name (in_action sc a) x) ≡ true
inner_point sc a x h = ap has_point (ap (λ (b : Bool). cond b (full sc.control (full a.name x)) (root_of sc.roots x)) h) ∙ full_has sc.control (full a.name x)

-- no name with a point is at one of the places
abbrev pub NoPoints : (List (List ℕ) → Type 0) → Type 0
NoPoints K = (y : List ℕ) → K (y ∷ []) → has_point y ≡ false

module _ (K : List (List ℕ) → Type 0) (none : NoPoints K) where
  params_spare : (sc : meaning.Scope) (a : tree.Action) (ps : List (PTy × List ℕ)) → ((m : List ℕ) → is_among (params_in ps) m ≡ true → is_among (params_in a.params ++ names_in a.body) m ≡ true) → ParamsSpare K (map (param_under (in_action sc a)) ps)
  params_spare sc a [] sub = tt
  params_spare sc a (p ∷ ps) sub = (
    λ k. (let c : true ≡ false = sym (inner_point sc a p.1 (sub p.1 (ap (λ (b : Bool). b || is_among (params_in ps) p.1) (text_same p.1 p.1 refl)))) ∙ none _ k in cc),
    params_spare sc a ps (λ m h. sub m (among_right (p.1 ∷ []) (params_in ps) m h)),
  )

  action_spares : (sc : meaning.Scope) (a : tree.Action) → ParamsSpare K (action_under sc a).params × Spares K (action_under sc a).body
  action_spares sc a = (
    params_spare sc a a.params (λ m h. among_left (params_in a.params) (names_in a.body) m h),
    block_spares (in_action sc a) K a.body (λ m h k. (let c : true ≡ false = sym (inner_point sc a m (among_right (params_in a.params) (names_in a.body) m h)) ∙ none _ k in cc)),
  )

  spare_more : (xs ys : List Action) → SpareAll K xs → SpareAll K ys → SpareAll K (xs ++ ys)
  spare_more [] ys h k = k
  spare_more (a ∷ xs) ys h k = (h.0, spare_more xs ys h.1 k)

  locals_spare : (ls : List Local) (sc : meaning.Scope) → SpareAll K (actions_in sc ls)
  locals_spare [] sc = tt
  locals_spare (local_action p a ∷ ls) sc = (action_spares sc a, locals_spare ls sc)
  locals_spare (local_table p t ∷ ls) sc = locals_spare ls sc
  locals_spare (local_register p r ∷ ls) sc = locals_spare ls sc
  locals_spare (local_const p t x e ∷ ls) sc = locals_spare ls (behind_local sc (local_const p t x e))
  locals_spare (local_var p t x e ∷ ls) sc = locals_spare ls sc

  pub tops_spare : (ts : List Top) (sc : meaning.Scope) → SpareAll K (actions_of sc ts)
  tops_spare [] sc = tt
  tops_spare (constant p t x e ∷ ts) sc = tops_spare ts (behind_top sc (constant p t x e))
  tops_spare (typedef p t x ∷ ts) sc = tops_spare ts (behind_top sc (typedef p t x))
  tops_spare (header_type p x fs ∷ ts) sc = tops_spare ts sc
  tops_spare (struct_type p x fs ∷ ts) sc = tops_spare ts sc
  tops_spare (register p r ∷ ts) sc = tops_spare ts sc
  tops_spare (parser p d ∷ ts) sc = tops_spare ts sc
  tops_spare (control p c ∷ ts) sc = spare_more (actions_in (in_control 0 1 2 sc c) c.locals) (actions_of sc ts) (locals_spare c.locals (in_control 0 1 2 sc c)) (tops_spare ts sc)

-- what the calls of a program with these actions do leaves places without points
pub program_calls : (K : List (List ℕ) → Type 0) → HasPlaces K → (as' : List Action) → SpareAll K as' → (ts : List Table) (held : Tables) → CallsLeave K (calls_in as' ts held)
program_calls K places as' spare ts held =
    (let k = calls_keep K places as' spare ts held in let n = calls_none as' ts held in
    record { actions = k.actions; tables = k.tables; bare_actions = n.actions; bare_tables = n.tables })

pub bare_calls : (K : List (List ℕ) → Type 0) → CallsLeave K no_calls
bare_calls K = record { actions = λ x es r h. keeps_same K r.store; tables = λ x r h. keeps_same K r.store; bare_actions = λ x es r e. e; bare_tables = λ x r e. e }

-- the places that a control reads and declares have no points
pub control_no_points : (s : Scope) (sc : meaning.Scope) (r : Roots) → IsControl sc r → AreHidden s r → ReadsPlain s → (xs : List (List ℕ)) → ((m : List ℕ) → is_among xs m ≡ true → is_missing (s (m ∷ [])) ≡ true) → ((m : List ℕ) → is_among xs m ≡ true → IsPlain m) → NoPoints (IsPlaceOf s sc xs)
control_no_points s sc r c h plain xs new plain_new y (x, (n, e)) = ap has_point (sym e) ∙ by n
  where
    by : IsNameOf s xs x → has_point (first_name sc x) ≡ false
    by (inl k) = ap has_point (first_free s sc r c h x (inl k)) ∙ plain_no_point x (plain.plain x k.0 k.1)
    by (inr k) = ap has_point (first_free s sc r c h x (inr (new x k))) ∙ plain_no_point x (plain_new x k)

-- ---- actions

pub with_params_other : (ps : List (PTy × List ℕ)) (s : Scope) (x : List ℕ) → is_among (params_in ps) x ≡ false → with_params s ps (x ∷ []) ≡ s (x ∷ [])
with_params_other [] s x h = refl
with_params_other (p ∷ ps) s x h = go (same_text p.1 x) refl h (with_params_other ps (declare s p.1 (value Fixed p.0)) x)
  where
    go : (b : Bool) → same_text p.1 x ≡ b → (b || is_among (params_in ps) x) ≡ false → (is_among (params_in ps) x ≡ false → with_params (declare s p.1 (value Fixed p.0)) ps (x ∷ []) ≡ declare s p.1 (value Fixed p.0) (x ∷ [])) → with_params (declare s p.1 (value Fixed p.0)) ps (x ∷ []) ≡ s (x ∷ [])
    go true i k more = broken k
    go false i k more = more k ∙ other_kept s p.1 (value Fixed p.0) x (λ e. (let c : true ≡ false = sym (text_same p.1 x e) ∙ i in cc))

-- in an action: s is in front of it
pub action_places : (s : Scope) (sc : meaning.Scope) (r : Roots) → IsControl sc r → AreHidden s r → ReadsPlain s → (a : tree.Action) → HavePlaces (with_params s a.params) (in_action sc a) (names_in a.body)
action_places s sc r c h plain a =
    record {
      apart = λ x y i j e. inner_one x y (body_name x i) (body_name y j) e;
      unread = λ x y i k j e. unread x y (is_among (params_in a.params ++ names_in a.body) x) refl i k (body_name y j) e;
    }
  where
    body_name : (x : List ℕ) → is_among (names_in a.body) x ≡ true → is_among (params_in a.params ++ names_in a.body) x ≡ true
    body_name x i = among_right (params_in a.params) (names_in a.body) x i

    inner_is : (x : List ℕ) → is_among (params_in a.params ++ names_in a.body) x ≡ true → first_name (in_action sc a) x ≡ full sc.control (full a.name x)
    inner_is x i = ap (λ (b : Bool). cond b (full sc.control (full a.name x)) (root_of sc.roots x)) i

    inner_one : (x y : List ℕ) → is_among (params_in a.params ++ names_in a.body) x ≡ true → is_among (params_in a.params ++ names_in a.body) y ≡ true → first_name (in_action sc a) x ≡ first_name (in_action sc a) y → x ≡ y
    inner_one x y i j e = full_one a.name x y (full_one sc.control (full a.name x) (full a.name y) (sym (inner_is x i) ∙ e ∙ inner_is y j))

    not_param : (x : List ℕ) → is_among (params_in a.params ++ names_in a.body) x ≡ false → is_among (params_in a.params) x ≡ false
    not_param x i = by (is_among (params_in a.params) x) refl
      where
        by : (b : Bool) → is_among (params_in a.params) x ≡ b → is_among (params_in a.params) x ≡ false
        by true k = (let c : true ≡ false = sym (among_left (params_in a.params) (names_in a.body) x k) ∙ i in absurd (cc))
        by false k = k

    outer_is : (x : List ℕ) → is_among (params_in a.params ++ names_in a.body) x ≡ false → (is_missing (s (x ∷ [])) ≡ false) × (reads (s (x ∷ [])) ≡ true) → first_name (in_action sc a) x ≡ x
    outer_is x i k = ap (λ (b : Bool). cond b (full sc.control (full a.name x)) (root_of sc.roots x)) i ∙ ap (λ (q : Roots). root_of q x) c.roots ∙ root_free s r h x (inl k)

    unread : (x y : List ℕ) (b : Bool) → is_among (params_in a.params ++ names_in a.body) x ≡ b → is_missing (with_params s a.params (x ∷ [])) ≡ false → reads (with_params s a.params (x ∷ [])) ≡ true → is_among (params_in a.params ++ names_in a.body) y ≡ true → first_name (in_action sc a) x ≡ first_name (in_action sc a) y → x ≡ y
    unread x y true i m k j e = inner_one x y i j e
    unread x y false i m k j e =
        (let same = with_params_other a.params s x (not_param x i) in
        let missing_not : is_missing (s (x ∷ [])) ≡ false = sym (ap is_missing same) ∙ m in
        let read : reads (s (x ∷ [])) ≡ true = sym (ap reads same) ∙ k in
        let no_dot = ap has_point (outer_is x i (missing_not, read)) ∙ plain_no_point x (plain.plain x missing_not read) in
        let dot = ap has_point (inner_is y j) ∙ full_has sc.control (full a.name y) in
        let d : false ≡ true = sym no_dot ∙ ap has_point e ∙ dot in absurd (cc))
