-- Ingress and egress of a well-typed program: their variables are set, and then the store fits at each statement to which
-- the run comes; and so it does in their actions.
use Rattle.std.proofs.Common.{◌≡◌, ℕ, List, [], ◌∷◌, Bool, true, false, cond, ◌||◌, Option, Some, None, refl, sym, ap, ◌∙◌, subst}
use Rattle.std.specs.List.{AllByRecursion}
use Rattle.lex_text.specs.Names.{same_text}
use Rattle.rule_tests.specs.Tests.{IsFine}
use Rattle.p4_tree.specs.Tree.{Expr, var, Local, local_action, local_table, local_register, local_const, local_var}
use Rattle.p4_tree.specs.declared.statement.PTy.{PTy}
use Rattle.p4_meaning.specs.Store.{Store}
use Rattle.p4_meaning.specs.Statements.{Run, Calls, start_of, meaning_of_stmt, meaning_of}
use Rattle.p4_meaning.specs.Scope as meaning
use Rattle.p4_meaning.specs.Scope.{Roots, roots_of, Inner, is_among, is_inner, constant_named, constant_at, first_name, path_under, names_in, type_under}
use Rattle.p4_meaning.specs.Under.{expr_under, stmt_under, with_constant, behind_local, behind_locals, settings_under}
use Rattle.p4_meaning.specs.Parts.{Parts}
use Rattle.p4_meaning.specs.Laws.{IsOf, HasStandard}
use Rattle.p4_scopes.specs.Scopes.{Stands, missing, is_missing, value_kind, thing_in, Scope, What, value, action, table, behind, declare, core}
use Rattle.p4_scopes.specs.Scopes as scope
use Rattle.p4_scopes.specs.Uses.{reads}
use Rattle.p4_scopes.specs.declared.thing.Access.TheVariants.{Writable, Constant}
use Rattle.p4_statement_rules.specs.Statements.{stmt_tests}
use Rattle.p4_statement_rules.specs.declared.rule.Part.TheVariants as place
use Rattle.p4_declaration_rules.specs.Digests.{most_of, most_of_table}
use Rattle.p4_declaration_rules.specs.Controls.{local_tests, after_local, locals_tests, after_locals}
use Rattle.p4_typing_laws.specs.Soundness.{kind_width}
use Rattle.p4_typing_laws.specs.Plain.{IsPlain, IsPlainValue}
use Rattle.p4_typing_laws.specs.Tied.{IsTied, LocalsPlaces}
use Rattle.p4_typing_laws.specs.Stores.{Fits}
use Rattle.p4_typing_laws.specs.Along.{IsPlaceOf, CallsLeave}
use Rattle.p4_typing_laws.proofs.Fine.{twice_not}
use Rattle.p4_typing_laws.proofs.CallCounts.{text_is, text_same}
use Rattle.p4_typing_laws.proofs.FullNames.{other_text}
use Rattle.p4_typing_laws.proofs.CountedNames.{other_kept}
use Rattle.p4_typing_laws.proofs.AlongRuns.{flat_type, Ready, step_fits, stmt_standard, at_none}
use Rattle.p4_typing_laws.proofs.KnownScopes.{Known, known_local}
use Rattle.p4_typing_laws.proofs.KeptPlaces.{HasPlaces}
use Rattle.p4_typing_laws.proofs.ReadyPlaces.{AreHidden, IsControl, control_places, control_no_points, NoPoints}

broken : {A : Type 0} → true ≡ false → A
broken h = absurd (cc)

-- ---- a declaration that is not read, or a constant

-- a store goes on to fit where what is declared has no place in it
quiet_fits : (s : Scope) (sc sd : meaning.Scope) (n : List ℕ) (w : What) (st : Store)
    → ((xs : List (List ℕ)) → is_missing (behind s w xs) ≡ false → reads (behind s w xs) ≡ true → constant_at sd (n ∷ xs) ≡ None → ⊥)
    → ((y : List ℕ) (xs : List (List ℕ)) → (n ≡ y → ⊥) → constant_at sd (y ∷ xs) ≡ None → constant_at sc (y ∷ xs) ≡ None) → ((y : List ℕ) → first_name sd y ≡ first_name sc y)
    → Fits s sc st → Fits (declare s n w) sd st
unfolding declare
quiet_fits s sc sd n w st unread constants names f = record { values = λ x h r c. fit x h r c; headers = f.headers }
  where
    go : (y : List ℕ) (xs : List (List ℕ)) (b : Bool) → same_text n y ≡ b → is_missing (cond b (behind s w xs) (s (y ∷ xs))) ≡ false → reads (cond b (behind s w xs) (s (y ∷ xs))) ≡ true → constant_at sd (y ∷ xs) ≡ None
        → IsOf (kind_width (value_kind (cond b (behind s w xs) (s (y ∷ xs))))) (st.values (first_name sd y ∷ xs))
    go y xs true e h r c = absurd (unread xs h r (subst (λ (z : List ℕ). constant_at sd (z ∷ xs) ≡ None) (sym (text_is n y e)) c))
    go y xs false e h r c =
        subst (λ (z : List ℕ). IsOf (kind_width (value_kind (s (y ∷ xs)))) (st.values (z ∷ xs))) (sym (names y))
        (f.values (y ∷ xs) h r (constants y xs (λ q. (let d : true ≡ false = sym (text_same n y q) ∙ e in cc)) c))

    fit : (x : List (List ℕ)) → is_missing (declare s n w x) ≡ false → reads (declare s n w x) ≡ true → constant_at sd x ≡ None → IsOf (kind_width (value_kind (declare s n w x))) (st.values (path_under sd x))
    fit [] h r c = f.values [] h r refl
    fit (y ∷ xs) h r c = go y xs (same_text n y) refl h r c

-- what is never read
Unread : Scope → What → Type 0
Unread s w = (xs : List (List ℕ)) → is_missing (behind s w xs) ≡ false → reads (behind s w xs) ≡ true → ⊥

unread_action : (s : Scope) (ps : List (PTy × List ℕ)) (m : ℕ) → (xs : List (List ℕ)) → is_missing (behind s (action ps m) xs) ≡ false → reads (behind s (action ps m) xs) ≡ true → ⊥
unread_action s ps m [] h r = broken (sym r)
unread_action s ps m (x ∷ xs) h r = broken h

unread_table : (s : Scope) (m : ℕ) → (xs : List (List ℕ)) → is_missing (behind s (table m) xs) ≡ false → reads (behind s (table m) xs) ≡ true → ⊥
unread_table s m [] h r = broken (sym r)
unread_table s m (x ∷ xs) h r = broken h

unread_register : (s : Scope) (t : PTy) → (xs : List (List ℕ)) → is_missing (behind s (scope.register t) xs) ≡ false → reads (behind s (scope.register t) xs) ≡ true → ⊥
unread_register s t [] h r = broken (sym r)
unread_register s t (x ∷ xs) h r = broken h

-- ---- along the declarations of a control

module _ (pt : Parts) (r : Roots) where
  -- what is known at a place in front of a declaration
  pub record IsPlaced (s : Scope) (sd : meaning.Scope) : Type 0 where
    pub known : Known s
    pub hidden : AreHidden s r
    pub control : IsControl sd r

  outer_constants : (sd : meaning.Scope) → IsControl sd r → (y : List ℕ) → constant_at sd (y ∷ []) ≡ constant_named sd.constants y
  outer_constants sd c y = ap (λ (i : Option Inner). cond (is_inner i y) None (constant_named sd.constants y)) c.inner

  const_fits : (p : ℕ) (s : Scope) (sd : meaning.Scope) (t : PTy) (n : List ℕ) (e : Expr) (st : Store) → IsPlaced s sd → IsFine (local_tests place.Apply s (local_const p t n e)) → Fits s sd st → Fits (after_local s (local_const p t n e)) (behind_local sd (local_const p t n e)) st
  const_fits p s sd t n e st b f fits = quiet_fits s sd (with_constant sd t n e) n (value Constant t) st (λ xs. unread xs) (λ y xs. constants y xs) (λ y. refl) fits
    where
      there : IsControl (with_constant sd t n e) r
      there = record { inner = b.control.inner; roots = b.control.roots }

      unread : (xs : List (List ℕ)) → is_missing (behind s (value Constant t) xs) ≡ false → reads (behind s (value Constant t) xs) ≡ true → constant_at (with_constant sd t n e) (n ∷ xs) ≡ None → ⊥
      unread [] h k c =
          (let w = start_of (type_under sd.types t) (Some (expr_under sd e)) _ in
          let d : Some w ≡ None = sym (outer_constants (with_constant sd t n e) there n ∙ ap (λ (c : Bool). cond c (Some w) (constant_named sd.constants n)) (text_same n n refl)) ∙ c in cc)
      unread (z ∷ zs) h k c = (let d : true ≡ false = sym (flat_type Constant s b.known.flat p t f.1.1.0 z zs) ∙ h in cc)

      constants : (y : List ℕ) (xs : List (List ℕ)) → (n ≡ y → ⊥) → constant_at (with_constant sd t n e) (y ∷ xs) ≡ None → constant_at sd (y ∷ xs) ≡ None
      constants y [] apart c =
          (let w = start_of (type_under sd.types t) (Some (expr_under sd e)) _ in
          outer_constants sd b.control y ∙ sym (ap (λ (c : Bool). cond c (Some w) (constant_named sd.constants y)) (other_text n y apart)) ∙ sym (outer_constants (with_constant sd t n e) there y) ∙ c)
      constants y (z ∷ zs) apart c = refl

  -- one declaration more
  stays_hidden : (s : Scope) (n m : List ℕ) (w : What) → is_missing (s (n ∷ [])) ≡ true → (is_missing (s (m ∷ [])) ≡ false) × (reads (s (m ∷ [])) ≡ false) → (is_missing (declare s n w (m ∷ [])) ≡ false) × (reads (declare s n w (m ∷ [])) ≡ false)
  stays_hidden s n m w new h = (let same = other_kept s n w m (λ e. (let c : true ≡ false = sym new ∙ ap (λ (y : List ℕ). is_missing (s (y ∷ []))) e ∙ h.0 in cc)) in (ap is_missing same ∙ h.0, ap reads same ∙ h.1))

  hidden_more : (s : Scope) (n : List ℕ) (w : What) → is_missing (s (n ∷ [])) ≡ true → AreHidden s r → AreHidden (declare s n w) r
  hidden_more s n w new h = record { headers = stays_hidden s n r.headers w new h.headers; metadata = stays_hidden s n r.metadata w new h.metadata; standard = stays_hidden s n r.standard w new h.standard }

  hidden_local : (s : Scope) (l : Local) → AreHidden s r → IsFine (local_tests place.Apply s l) → AreHidden (after_local s l) r
  hidden_local s (local_action p a) h f = hidden_more s a.name (action a.params (most_of s a.body)) (twice_not _ f.1.0) h
  hidden_local s (local_table p t) h f = hidden_more s t.name (table (most_of_table s t.actions t.default)) (twice_not _ f.1.0) h
  hidden_local s (local_register p q) h f = hidden_more s q.name (scope.register q.ty) (twice_not _ f.1.0) h
  hidden_local s (local_const p t x e) h f = hidden_more s x (value Constant t) (twice_not _ f.1.0) h
  hidden_local s (local_var p t x e) h f = hidden_more s x (value Writable t) (twice_not _ f.1.0) h

  control_more : (sd : meaning.Scope) (l : Local) → IsControl sd r → IsControl (behind_local sd l) r
  control_more sd (local_action p a) c = c
  control_more sd (local_table p t) c = c
  control_more sd (local_register p q) c = c
  control_more sd (local_const p t x e) c = record { inner = c.inner; roots = c.roots }
  control_more sd (local_var p t x e) c = c

  pub placed_more : (s : Scope) (sd : meaning.Scope) (l : Local) → IsPlaced s sd → IsPlainValue l → IsFine (local_tests place.Apply s l) → IsPlaced (after_local s l) (behind_local sd l)
  placed_more s sd l b plain f = record { known = known_local place.Apply s b.known l plain f; hidden = hidden_local s l b.hidden f; control = control_more sd l b.control }

  pub placed_end : (ls : List Local) (s : Scope) (sd : meaning.Scope) → IsPlaced s sd → AllByRecursion IsPlainValue ls → IsFine (locals_tests place.Apply s ls) → IsPlaced (after_locals s ls) (behind_locals sd ls)
  placed_end [] s sd b plain f = b
  placed_end (l ∷ ls) s sd b plain f = placed_end ls (after_local s l) (behind_local sd l) (placed_more s sd l b plain.0 f.0) plain.1 f.1

  pub tied_end : (ls : List Local) (s : Scope) (sd : meaning.Scope) → LocalsPlaces (IsTied pt) s sd ls → IsTied pt (after_locals s ls) (behind_locals sd ls)
  tied_end [] s sd t = t
  tied_end (l ∷ ls) s sd t = tied_end ls (after_local s l) (behind_local sd l) t.1

  -- ---- back along the declarations

  -- where a store fits what is in sight behind a declaration, it fits what was in sight before
  back_fits : (s : Scope) (sc sd : meaning.Scope) (n : List ℕ) (w : What) (st : Store) → Known s → is_missing (s (n ∷ [])) ≡ true → ((y : List ℕ) (xs : List (List ℕ)) → (n ≡ y → ⊥) → constant_at sc (y ∷ xs) ≡ None → constant_at sd (y ∷ xs) ≡ None) → ((y : List ℕ) → first_name sd y ≡ first_name sc y)
      → Fits (declare s n w) sd st → Fits s sc st
  unfolding declare
  back_fits s sc sd n w st k new constants names f = record { values = λ x h i c. fit x h i c; headers = f.headers }
    where
      head_there : (y : List ℕ) (xs : List (List ℕ)) → is_missing (s (y ∷ xs)) ≡ false → n ≡ y → ⊥
      head_there y [] h e = (let d : true ≡ false = sym new ∙ ap (λ (z : List ℕ). is_missing (s (z ∷ []))) e ∙ h in cc)
      head_there y (z ∷ zs) h e = (let d : true ≡ false = sym (k.rooted.rooted y (subst (λ (v : List ℕ). is_missing (s (v ∷ [])) ≡ true) e new) z zs) ∙ h in cc)

      go : (y : List ℕ) (xs : List (List ℕ)) (b : Bool) → same_text n y ≡ b → is_missing (s (y ∷ xs)) ≡ false → reads (s (y ∷ xs)) ≡ true → constant_at sd (y ∷ xs) ≡ None
          → (is_missing (cond b (behind s w xs) (s (y ∷ xs))) ≡ false → reads (cond b (behind s w xs) (s (y ∷ xs))) ≡ true → IsOf (kind_width (value_kind (cond b (behind s w xs) (s (y ∷ xs))))) (st.values (first_name sd y ∷ xs)))
          → IsOf (kind_width (value_kind (s (y ∷ xs)))) (st.values (first_name sc y ∷ xs))
      go y xs true e h i c more = absurd (head_there y xs h (text_is n y e))
      go y xs false e h i c more = subst (λ (z : List ℕ). IsOf (kind_width (value_kind (s (y ∷ xs)))) (st.values (z ∷ xs))) (names y) (more h i)

      fit : (x : List (List ℕ)) → is_missing (s x) ≡ false → reads (s x) ≡ true → constant_at sc x ≡ None → IsOf (kind_width (value_kind (s x))) (st.values (path_under sc x))
      fit [] h i c = f.values [] h i refl
      fit (y ∷ xs) h i c = (let d = constants y xs (head_there y xs h) c in go y xs (same_text n y) refl h i d (λ m q. f.values (y ∷ xs) m q d))

  pub back_local : (s : Scope) (sd : meaning.Scope) (l : Local) (st : Store) → IsPlaced s sd → IsFine (local_tests place.Apply s l) → Fits (after_local s l) (behind_local sd l) st → Fits s sd st
  back_local s sd (local_action p a) st b f fits = back_fits s sd sd a.name (action a.params (most_of s a.body)) st b.known (twice_not _ f.1.0) (λ y xs apart c. c) (λ y. refl) fits
  back_local s sd (local_table p t) st b f fits = back_fits s sd sd t.name (table (most_of_table s t.actions t.default)) st b.known (twice_not _ f.1.0) (λ y xs apart c. c) (λ y. refl) fits
  back_local s sd (local_register p q) st b f fits = back_fits s sd sd q.name (scope.register q.ty) st b.known (twice_not _ f.1.0) (λ y xs apart c. c) (λ y. refl) fits
  back_local s sd (local_const p t x e) st b f fits = back_fits s sd (with_constant sd t x e) x (value Constant t) st b.known (twice_not _ f.1.0) (λ y xs apart c. constants y xs apart c) (λ y. refl) fits
    where
      there : IsControl (with_constant sd t x e) r
      there = record { inner = b.control.inner; roots = b.control.roots }

      constants : (y : List ℕ) (xs : List (List ℕ)) → (x ≡ y → ⊥) → constant_at sd (y ∷ xs) ≡ None → constant_at (with_constant sd t x e) (y ∷ xs) ≡ None
      constants y [] apart c =
          (let w = start_of (type_under sd.types t) (Some (expr_under sd e)) _ in
          outer_constants (with_constant sd t x e) there y ∙ ap (λ (c : Bool). cond c (Some w) (constant_named sd.constants y)) (other_text x y apart) ∙ sym (outer_constants sd b.control y) ∙ c)
      constants y (z ∷ zs) apart c = refl
  back_local s sd (local_var p t x e) st b f fits = back_fits s sd sd x (value Writable t) st b.known (twice_not _ f.1.0) (λ y xs apart c. c) (λ y. refl) fits

  pub back_all : (ls : List Local) (s : Scope) (sd : meaning.Scope) (st : Store) → IsPlaced s sd → AllByRecursion IsPlainValue ls → IsFine (locals_tests place.Apply s ls) → Fits (after_locals s ls) (behind_locals sd ls) st → Fits s sd st
  back_all [] s sd st b plain f fits = fits
  back_all (l ∷ ls) s sd st b plain f fits = back_local s sd l st b f.0 (back_all ls (after_local s l) (behind_local sd l) st (placed_more s sd l b plain.0 f.0) plain.1 f.1 fits)

  -- ---- what a block of a control needs

  -- declared: new plain names
  pub control_ready : (calls : Calls) → ((K : List (List ℕ) → Type 0) → HasPlaces K → NoPoints K → CallsLeave K calls) → (s : Scope) (sd : meaning.Scope) (xs : List (List ℕ)) → IsTied pt s sd → IsPlaced s sd
      → ((m : List ℕ) → is_among xs m ≡ true → is_missing (s (m ∷ [])) ≡ true) → ((m : List ℕ) → is_among xs m ≡ true → IsPlain m) → Ready pt calls s sd xs
  control_ready calls leave s sd xs tied b new plain =
      record {
        tied = tied;
        sound = b.known.sound;
        flat = b.known.flat;
        places = control_places s sd r b.control b.hidden xs new;
        calls_leave = leave (IsPlaceOf s sd xs) (record { spec = tt; error = tt }) (control_no_points s sd r b.control b.hidden b.known.plain xs new plain);
      }

  among_one : (x m : List ℕ) → is_among (x ∷ []) m ≡ true → x ≡ m
  among_one x m h = go (same_text x m) refl h
    where
      go : (b : Bool) → same_text x m ≡ b → (b || false) ≡ true → x ≡ m
      go true e k = text_is x m e
      go false e k = broken (sym k)

  module _ (calls : Calls) (leave : (K : List (List ℕ) → Type 0) → HasPlaces K → NoPoints K → CallsLeave K calls) where
    -- the control's variables are set one by one
    var_ready : (p : ℕ) (t : PTy) (x : List ℕ) (e : Option Expr) (s : Scope) (sd : meaning.Scope) → IsTied pt s sd → IsPlaced s sd → IsPlain x → IsFine (local_tests place.Apply s (local_var p t x e)) → Ready pt calls s sd (x ∷ [])
    var_ready p t x e s sd tied b plain f =
        control_ready calls leave s sd (x ∷ []) tied b
        (λ m i. subst (λ (y : List ℕ). is_missing (s (y ∷ [])) ≡ true) (among_one x m i) (twice_not _ f.1.0)) (λ m i. subst IsPlain (among_one x m i) plain)

    -- a run whose store fits, with the standard metadata
    pub record FitsRun (s : Scope) (sd : meaning.Scope) (q : Run) : Type 0 where
      pub fits : Fits s sd q.store
      pub standard : HasStandard q.store

    pub settings_fit : (ls : List Local) (s : Scope) (sd : meaning.Scope) → LocalsPlaces (IsTied pt) s sd ls → IsPlaced s sd → AllByRecursion IsPlainValue ls → IsFine (locals_tests place.Apply s ls) → (q : Run) → FitsRun s sd q → FitsRun (after_locals s ls) (behind_locals sd ls) (meaning_of calls (settings_under sd ls) q).0
    settings_fit [] s sd t b plain f q fits = fits
    settings_fit (local_action p a ∷ ls) s sd t b plain f q fits =
        settings_fit ls (after_local s (local_action p a)) sd t.1 (placed_more s sd (local_action p a) b plain.0 f.0) plain.1 f.1 q
        (record { fits = quiet_fits s sd sd a.name (action a.params (most_of s a.body)) q.store (λ xs h k c. unread_action s a.params (most_of s a.body) xs h k) (λ y xs apart c. c) (λ y. refl) fits.fits; standard = fits.standard })
    settings_fit (local_table p u ∷ ls) s sd t b plain f q fits =
        settings_fit ls (after_local s (local_table p u)) sd t.1 (placed_more s sd (local_table p u) b plain.0 f.0) plain.1 f.1 q
        (record { fits = quiet_fits s sd sd u.name (table (most_of_table s u.actions u.default)) q.store (λ xs h k c. unread_table s (most_of_table s u.actions u.default) xs h k) (λ y xs apart c. c) (λ y. refl) fits.fits; standard = fits.standard })
    settings_fit (local_register p g ∷ ls) s sd t b plain f q fits =
        settings_fit ls (after_local s (local_register p g)) sd t.1 (placed_more s sd (local_register p g) b plain.0 f.0) plain.1 f.1 q
        (record { fits = quiet_fits s sd sd g.name (scope.register g.ty) q.store (λ xs h k c. unread_register s g.ty xs h k) (λ y xs apart c. c) (λ y. refl) fits.fits; standard = fits.standard })
    settings_fit (local_const p u x e ∷ ls) s sd t b plain f q fits =
        settings_fit ls (after_local s (local_const p u x e)) (behind_local sd (local_const p u x e)) t.1 (placed_more s sd (local_const p u x e) b plain.0 f.0) plain.1 f.1 q
        (record { fits = const_fits p s sd u x e q.store b f.0 fits.fits; standard = fits.standard })
    settings_fit (local_var p u x e ∷ ls) s sd t b plain f q fits =
        (let ready = var_ready p u x e s sd t.0 b plain.0 f.0 in
        let fine : IsFine (stmt_tests place.Apply s (var p u x e)) = (refl, f.0.1) in
        settings_fit ls (after_local s (local_var p u x e)) sd t.1 (placed_more s sd (local_var p u x e) b plain.0 f.0) plain.1 f.1 (meaning_of_stmt calls (stmt_under sd (var p u x e)) q).0
        (record {
          fits = step_fits pt calls sd (var p u x e) place.Apply s ready fine q fits.fits fits.standard;
          standard = stmt_standard pt calls sd s (x ∷ []) ready (var p u x e) (at_none pt calls sd place.Apply s (var p u x e) fine ready) q fits.standard;
        }))
