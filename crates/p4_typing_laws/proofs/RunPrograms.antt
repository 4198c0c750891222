-- Ingress and egress of each well-typed program.
use Rattle.std.proofs.Common.{◌≡◌, ℕ, List, [], ◌∷◌, Bool, true, false, cond, ◌||◌, Option, Some, None, refl, sym, ap, ◌∙◌, subst}
use Rattle.std.specs.List.{AllByRecursion}
use Rattle.lex_text.specs.Names.{same_text}
use Rattle.rule_tests.specs.Tests.{IsFine}
use Rattle.p4_tree.specs.Tree.{var, Local, local_action, local_table, local_register, local_const, local_var, Control, Top, constant, typedef, header_type, struct_type, register, parser, control, Program}
use Rattle.p4_meaning.specs.Statements.{Run, meaning_of, Flow, Go, Ended, Calls, after as run_after, meaning_of_stmt}
use Rattle.p4_meaning.specs.Scope as meaning
use Rattle.p4_meaning.specs.Scope.{Roots, roots_of, is_among, names_in}
use Rattle.p4_meaning.specs.Under as under
use Rattle.p4_meaning.specs.Under.{stmt_under, stmts_under, no_scope, behind_top, behind_local, behind_locals, settings_under}
use Rattle.p4_meaning.specs.Tables.{Tables, calls_in}
use Rattle.p4_meaning.specs.Parts.{Parts, whole, body_of, control_named, parts_of}
use Rattle.p4_meaning.specs.Laws.{HasStandard}
use Rattle.p4_scopes.specs.Scopes.{is_missing, Scope, What, alias, fields, value, part, core}
use Rattle.p4_scopes.specs.Scopes as scope
use Rattle.p4_scopes.specs.Uses.{is_scalar, is_header}
use Rattle.p4_scopes.specs.declared.thing.Thing.TheVariants.{Header, Struct}
use Rattle.p4_scopes.specs.declared.thing.Access.TheVariants.{Constant}
use Rattle.p4_statement_rules.specs.declared.rule.Part.{Part}
use Rattle.p4_statement_rules.specs.declared.rule.Part.TheVariants as place
use Rattle.p4_declaration_rules.specs.Parsers.{with_ways}
use Rattle.p4_declaration_rules.specs.Controls.{after_local, locals_tests, in_control, control_tests, part_in, after_top, tops_tests, after_tops, after_locals}
use Rattle.p4_declaration_rules.proofs.FirstsLemmas.{all_first}
use Rattle.p4_rules.specs.Mains.{Structs, structs_of, apply_wants, control_params, parts_params, wanted_tests}
use Rattle.p4_rules.specs.ProgramRules.{program_scope, IsWellTyped}
use Rattle.p4_meaning.specs.Store.{Store}
use Rattle.p4_meaning.proofs.Sequences.{then_runs}
use Rattle.p4_typing_laws.specs.Plain.{IsPlain, IsPlainValue, HavePlainValues}
use Rattle.p4_typing_laws.specs.Tied.{IsTied, LocalsPlaces, TopsPlaces}
use Rattle.p4_typing_laws.specs.Stores.{Fits}
use Rattle.p4_typing_laws.specs.Along.{CallsLeave, Along, RunFits}
use Rattle.p4_typing_laws.specs.Runs.{GoesOnToFit, LocalsRun, ControlRuns, TopsRun, ControlsRun}
use Rattle.p4_typing_laws.proofs.Fine.{twice_not, typed_fine}
use Rattle.p4_typing_laws.proofs.CallCounts.{text_is, text_same}
use Rattle.p4_typing_laws.proofs.FullNames.{other_text}
use Rattle.p4_typing_laws.proofs.CountedNames.{was_missing}
use Rattle.p4_typing_laws.proofs.TiedNames.{block_missing}
use Rattle.p4_typing_laws.proofs.TiedPlaces.{each_tied}
use Rattle.p4_typing_laws.proofs.AlongRuns.{along, Read, AtNone, new_at_none, base_block, base_behind}
use Rattle.p4_typing_laws.proofs.KnownScopes.{Known, core_known, known_top, stays}
use Rattle.p4_typing_laws.proofs.KeptPlaces.{HasPlaces}
use Rattle.p4_typing_laws.proofs.ReadyPlaces.{control_places, control_no_points, IsControl, NoPoints, tops_spare, program_calls}
use Rattle.p4_typing_laws.proofs.HiddenParams.{AreStructs, struct_if, GoesOn, Inside, inside_of}
use Rattle.p4_typing_laws.proofs.RunPlaces.{back_all, FitsRun, IsPlaced, placed_more, placed_end, tied_end, control_ready, settings_fit}
use Rattle.p4_typing_laws.proofs.ActionStores.{action_runs}

broken : {A : Type 0} → true ≡ false → A
broken h = absurd (cc)

among_plain : (xs : List (List ℕ)) → AllByRecursion IsPlain xs → (m : List ℕ) → is_among xs m ≡ true → IsPlain m
among_plain [] h m i = broken (sym i)
among_plain (x ∷ xs) h m i = go (same_text x m) refl i (among_plain xs h.1 m)
  where
    go : (b : Bool) → same_text x m ≡ b → (b || is_among xs m) ≡ true → (is_among xs m ≡ true → IsPlain m) → IsPlain m
    go true e k more = subst IsPlain (text_is x m e) h.0
    go false e k more = more k

-- ---- a control

module _ (pt : Parts) (r : Roots) (S : Scope) (SD : meaning.Scope) where
  locals_run : (ls : List Local) (s : Scope) (sd : meaning.Scope) → ((st : Store) → Fits S SD st → Fits s sd st) → ((st : Store) → Fits S SD st → Fits (after_locals s ls) (behind_locals sd ls) st) → LocalsPlaces (IsTied pt) s sd ls → IsPlaced pt r s sd → AllByRecursion IsPlainValue ls → IsFine (locals_tests place.Apply s ls) → LocalsRun S SD s sd ls
  locals_run [] s sd back end t b plain f = tt
  locals_run (local_action p a ∷ ls) s sd back end t b plain f = (
    action_runs pt r s sd b a place.Action f.0.1 S SD back t.0.0,
    locals_run ls (after_local s (local_action p a)) sd (λ st fits. back_all pt r ls (after_local s (local_action p a)) sd st (placed_more pt r s sd (local_action p a) b plain.0 f.0) plain.1 f.1 (end st fits)) end t.1 (placed_more pt r s sd (local_action p a) b plain.0 f.0) plain.1 f.1,
  )
  locals_run (local_table p u ∷ ls) s sd back end t b plain f = (
    tt,
    locals_run ls (after_local s (local_table p u)) sd (λ st fits. back_all pt r ls (after_local s (local_table p u)) sd st (placed_more pt r s sd (local_table p u) b plain.0 f.0) plain.1 f.1 (end st fits)) end t.1 (placed_more pt r s sd (local_table p u) b plain.0 f.0) plain.1 f.1,
  )
  locals_run (local_register p g ∷ ls) s sd back end t b plain f = (
    tt,
    locals_run ls (after_local s (local_register p g)) sd (λ st fits. back_all pt r ls (after_local s (local_register p g)) sd st (placed_more pt r s sd (local_register p g) b plain.0 f.0) plain.1 f.1 (end st fits)) end t.1 (placed_more pt r s sd (local_register p g) b plain.0 f.0) plain.1 f.1,
  )
  locals_run (local_const p u x e ∷ ls) s sd back end t b plain f = (
    tt,
    locals_run ls (after_local s (local_const p u x e)) (behind_local sd (local_const p u x e)) (λ st fits. back_all pt r ls (after_local s (local_const p u x e)) (behind_local sd (local_const p u x e)) st (placed_more pt r s sd (local_const p u x e) b plain.0 f.0) plain.1 f.1 (end st fits)) end t.1 (placed_more pt r s sd (local_const p u x e) b plain.0 f.0) plain.1 f.1,
  )
  locals_run (local_var p u x e ∷ ls) s sd back end t b plain f = (
    tt,
    locals_run ls (after_local s (local_var p u x e)) sd (λ st fits. back_all pt r ls (after_local s (local_var p u x e)) sd st (placed_more pt r s sd (local_var p u x e) b plain.0 f.0) plain.1 f.1 (end st fits)) end t.1 (placed_more pt r s sd (local_var p u x e) b plain.0 f.0) plain.1 f.1,
  )

-- leave: what calls do leaves places without points
control_runs : (pt : Parts) → ((held : Tables) (K : List (List ℕ) → Type 0) → HasPlaces K → NoPoints K → CallsLeave K (calls_in pt.actions pt.tables held)) → (s : Scope) (sc : meaning.Scope) (c : Control) → sc.inner ≡ None → Inside s c.params
    → LocalsPlaces (IsTied pt) (with_ways s c.params) (under.in_control 0 1 2 sc c) c.locals → AllByRecursion IsPlainValue c.locals → AllByRecursion IsPlain (names_in c.apply) → IsFine (control_tests place.Apply s c) → ControlRuns pt s sc c
control_runs pt leave s sc c outer inside t plain plain_body f =
    record {
      body = λ held q fits st. body held q fits st;
      control = λ held q fits st. control held q fits st;
      actions = locals_run pt (roots_of c.params 0 1 2) (in_control s c) (behind_locals (under.in_control 0 1 2 sc c) c.locals) c.locals (with_ways s c.params) (under.in_control 0 1 2 sc c) (λ st fits. back_all pt (roots_of c.params 0 1 2) c.locals (with_ways s c.params) (under.in_control 0 1 2 sc c) st placed plain f.1.1.0 fits) (λ st fits. fits) t placed plain f.1.1.0;
      behind = λ held q fits st. behind held q fits st;
    }
  where
    placed : IsPlaced pt (roots_of c.params 0 1 2) (with_ways s c.params) (under.in_control 0 1 2 sc c)
    placed = record { known = inside.known; hidden = inside.hidden; control = record { inner = outer; roots = refl } }

    end : IsPlaced pt (roots_of c.params 0 1 2) (in_control s c) (behind_locals (under.in_control 0 1 2 sc c) c.locals)
    end = placed_end pt (roots_of c.params 0 1 2) c.locals (with_ways s c.params) (under.in_control 0 1 2 sc c) placed plain f.1.1.0

    begins : IsControl (under.in_control 0 1 2 sc c) (roots_of c.params 0 1 2)
    begins = record { inner = outer; roots = refl }

    body : (held : Tables) (q : Run) → Fits (with_ways s c.params) (under.in_control 0 1 2 sc c) q.store → HasStandard q.store
        → Along (calls_in pt.actions pt.tables held) RunFits (in_control s c) (behind_locals (under.in_control 0 1 2 sc c) c.locals) c.apply
        (meaning_of (calls_in pt.actions pt.tables held) (settings_under (under.in_control 0 1 2 sc c) c.locals) q).0
    body held q fits st =
        (let calls = calls_in pt.actions pt.tables held in
        let set = settings_fit pt (roots_of c.params 0 1 2) calls (leave held) c.locals (with_ways s c.params) (under.in_control 0 1 2 sc c) t placed plain f.1.1.0 q (record { fits = fits; standard = st }) in
        along pt calls (behind_locals (under.in_control 0 1 2 sc c) c.locals) c.apply place.Apply (in_control s c)
        (control_ready pt (roots_of c.params 0 1 2) calls (leave held) (in_control s c) (behind_locals (under.in_control 0 1 2 sc c) c.locals) (names_in c.apply)
        (tied_end pt (roots_of c.params 0 1 2) c.locals (with_ways s c.params) (under.in_control 0 1 2 sc c) t) end (λ m i. block_missing c.apply place.Apply (in_control s c) f.1.1.1.0 m i) (among_plain (names_in c.apply) plain_body))
        f.1.1.1.0 (meaning_of calls (settings_under (under.in_control 0 1 2 sc c) c.locals) q).0 set.fits set.standard)

    new_names : (m : List ℕ) → is_among (names_in c.apply) m ≡ true → is_missing (in_control s c (m ∷ [])) ≡ true
    new_names m i = block_missing c.apply place.Apply (in_control s c) f.1.1.1.0 m i

    -- the names of the body's blocks have no place that the control reads
    none_read : AtNone (behind_locals (under.in_control 0 1 2 sc c) c.locals) (Read (in_control s c) (behind_locals (under.in_control 0 1 2 sc c) c.locals)) (names_in c.apply)
    none_read = new_at_none (in_control s c) (behind_locals (under.in_control 0 1 2 sc c) c.locals) (names_in c.apply) (control_places (in_control s c) (behind_locals (under.in_control 0 1 2 sc c) c.locals) (roots_of c.params 0 1 2) end.control end.hidden (names_in c.apply) new_names) new_names

    leaves : (held : Tables) → CallsLeave (Read (in_control s c) (behind_locals (under.in_control 0 1 2 sc c) c.locals)) (calls_in pt.actions pt.tables held)
    leaves held = leave held _ (record { spec = tt; error = tt }) (control_no_points (in_control s c) (behind_locals (under.in_control 0 1 2 sc c) c.locals) (roots_of c.params 0 1 2) end.control end.hidden end.known.plain [] (λ m i. broken (sym i)) (λ m i. broken (sym i)))

    set : (held : Tables) (q : Run) → Fits (with_ways s c.params) (under.in_control 0 1 2 sc c) q.store → HasStandard q.store
        → FitsRun pt (roots_of c.params 0 1 2) (calls_in pt.actions pt.tables held) (leave held) (in_control s c) (behind_locals (under.in_control 0 1 2 sc c) c.locals) (meaning_of (calls_in pt.actions pt.tables held) (settings_under (under.in_control 0 1 2 sc c) c.locals) q).0
    set held q fits st = settings_fit pt (roots_of c.params 0 1 2) (calls_in pt.actions pt.tables held) (leave held) c.locals (with_ways s c.params) (under.in_control 0 1 2 sc c) t placed plain f.1.1.0 q (record { fits = fits; standard = st })

    control : (held : Tables) (q : Run) → Fits (with_ways s c.params) (under.in_control 0 1 2 sc c) q.store → HasStandard q.store
        → Along (calls_in pt.actions pt.tables held) (GoesOnToFit (in_control s c) (behind_locals (under.in_control 0 1 2 sc c) c.locals)) (in_control s c) (behind_locals (under.in_control 0 1 2 sc c) c.locals) c.apply
        (meaning_of (calls_in pt.actions pt.tables held) (settings_under (under.in_control 0 1 2 sc c) c.locals) q).0
    control held q fits st =
        (let b = set held q fits st in
        base_block (in_control s c) (behind_locals (under.in_control 0 1 2 sc c) c.locals) (calls_in pt.actions pt.tables held) (leaves held) c.apply (in_control s c) none_read (meaning_of (calls_in pt.actions pt.tables held) (settings_under (under.in_control 0 1 2 sc c) c.locals) q).0 b.fits b.standard)

    -- behind the body, wherever it ended, and back to the parameters
    fits_end : (held : Tables) (q : Run) → Fits (with_ways s c.params) (under.in_control 0 1 2 sc c) q.store → HasStandard q.store
        → Fits (with_ways s c.params) (under.in_control 0 1 2 sc c) (meaning_of (calls_in pt.actions pt.tables held) (stmts_under (behind_locals (under.in_control 0 1 2 sc c) c.locals) c.apply) (meaning_of (calls_in pt.actions pt.tables held) (settings_under (under.in_control 0 1 2 sc c) c.locals) q).0).0.store
    fits_end held q fits st =
        (let b = set held q fits st in
        back_all pt (roots_of c.params 0 1 2) c.locals (with_ways s c.params) (under.in_control 0 1 2 sc c) _ placed plain f.1.1.0
        (base_behind (in_control s c) (behind_locals (under.in_control 0 1 2 sc c) c.locals) (calls_in pt.actions pt.tables held) (leaves held) c.apply none_read (meaning_of (calls_in pt.actions pt.tables held) (settings_under (under.in_control 0 1 2 sc c) c.locals) q).0 b.fits b.standard))

    -- a control's variables are set, and what follows goes on
    settings_go : (calls : Calls) (ls : List Local) (sd : meaning.Scope) (q : Run) → (meaning_of calls (settings_under sd ls) q).1 ≡ Go
    settings_go calls [] sd q = refl
    settings_go calls (local_action p a ∷ ls) sd q = settings_go calls ls sd q
    settings_go calls (local_table p u ∷ ls) sd q = settings_go calls ls sd q
    settings_go calls (local_register p g ∷ ls) sd q = settings_go calls ls sd q
    settings_go calls (local_const p u x e ∷ ls) sd q = settings_go calls ls (behind_local sd (local_const p u x e)) q
    settings_go calls (local_var p u x e ∷ ls) sd q = settings_go calls ls sd (meaning_of_stmt calls (stmt_under sd (var p u x e)) q).0

    behind : (held : Tables) (q : Run) → Fits (with_ways s c.params) (under.in_control 0 1 2 sc c) q.store → HasStandard q.store
        → Fits (with_ways s c.params) (under.in_control 0 1 2 sc c) (meaning_of (calls_in pt.actions pt.tables held) (whole (body_of 0 1 2 sc (Some c))) q).0.store
    behind held q fits st =
        (let calls = calls_in pt.actions pt.tables held in
        let sets = settings_under (under.in_control 0 1 2 sc c) c.locals in
        let rest = stmts_under (behind_locals (under.in_control 0 1 2 sc c) c.locals) c.apply in
        let whole_is = then_runs calls sets rest q ∙ ap (λ (g : Flow). run_after g (meaning_of calls sets q).0 (meaning_of calls rest)) (settings_go calls c.locals (under.in_control 0 1 2 sc c) q) in
        subst (λ (e : Ended). Fits (with_ways s c.params) (under.in_control 0 1 2 sc c) e.0.store) (sym whole_is) (fits_end held q fits st))

-- ---- a program

-- a control that is ingress or egress has one of two names
apply_name : (main : List (List ℕ)) (x : List ℕ) → part_in main x ≡ place.Apply → (at : ℕ) (R : Structs) (ts : List Top) → IsFine (parts_params at R ts main) → (c : Control) → control_named ts x ≡ Some c → IsFine (wanted_tests at R apply_wants c.params)
apply_name [] x h at R ts f c e = absurd (cc)
apply_name (d ∷ []) x h at R ts f c e = absurd (cc)
apply_name (d ∷ v ∷ []) x h at R ts f c e = absurd (cc)
apply_name (d ∷ v ∷ i ∷ []) x h at R ts f c e = absurd (cc)
apply_name (d ∷ v ∷ i ∷ g ∷ []) x h at R ts f c e = absurd (cc)
apply_name (d ∷ v ∷ i ∷ g ∷ k ∷ []) x h at R ts f c e = absurd (cc)
apply_name (d ∷ v ∷ i ∷ g ∷ k ∷ m ∷ n ∷ rest) x h at R ts f c e = absurd (cc)
apply_name (d ∷ v ∷ i ∷ g ∷ k ∷ m ∷ []) x h at R ts f c e = go (same_text v x) (same_text i x) (same_text g x) (same_text k x) (same_text m x) refl refl h
  where
    of_one : (y : List ℕ) → same_text y x ≡ true → IsFine (control_params at R apply_wants (control_named ts y)) → IsFine (wanted_tests at R apply_wants c.params)
    of_one y q w = subst (λ (o : Option Control). IsFine (control_params at R apply_wants o)) (ap (control_named ts) (text_is y x q) ∙ e) w

    go : (a b c' k' m' : Bool) → same_text i x ≡ b → same_text g x ≡ c' → cond a place.Verify (cond b place.Apply (cond c' place.Apply (cond k' place.Compute (cond m' place.Deparser place.Other)))) ≡ place.Apply → IsFine (wanted_tests at R apply_wants c.params)
    go true b c' k' m' p q r = absurd (cc)
    go false true c' k' m' p q r = of_one i p f.1.1.0
    go false false true k' m' p q r = of_one g q f.1.1.1.0
    go false false false true m' p q r = absurd (cc)
    go false false false false true p q r = absurd (cc)
    go false false false false false p q r = absurd (cc)

other_control : (c : Control) (ts : List Top) (p : ℕ) (x : List ℕ) → (c.name ≡ x → ⊥) → control_named (control p c ∷ ts) x ≡ control_named ts x
other_control c ts p x h = ap (λ (b : Bool). cond b (Some c) (control_named ts x)) (other_text c.name x h)

this_control : (c : Control) (ts : List Top) (p : ℕ) → control_named (control p c ∷ ts) c.name ≡ Some c
this_control c ts p = ap (λ (b : Bool). cond b (Some c) (control_named ts c.name)) (text_same c.name c.name refl)

module _ (p : Program) (typed : IsWellTyped p) where
  -- what is known in front of declarations at top level
  record IsAt (ts : List Top) (s : Scope) (sc : meaning.Scope) : Type 0 where
    known : Known s
    outer : sc.inner ≡ None
    all : after_tops s ts ≡ program_scope p
    finds : (x : List ℕ) → is_missing (s (x ∷ [])) ≡ true → control_named p.tops x ≡ control_named ts x

  structs : AreStructs (program_scope p) p.tops (structs_of (program_scope p) p)
  structs = (λ h. struct_if is_header (program_scope p) p.tops _ h, λ h. struct_if is_scalar (program_scope p) p.tops _ h)

  leave : (held : Tables) (K : List (List ℕ) → Type 0) → HasPlaces K → NoPoints K → CallsLeave K (calls_in (parts_of p).actions (parts_of p).tables held)
  leave held K places none = program_calls K places (parts_of p).actions (tops_spare K none p.tops no_scope) (parts_of p).tables held

  at_control : (q : ℕ) (c : Control) (ts : List Top) (s : Scope) (sc : meaning.Scope) → IsAt (control q c ∷ ts) s sc → LocalsPlaces (IsTied (parts_of p)) (with_ways s c.params) (under.in_control 0 1 2 sc c) c.locals
      → AllByRecursion IsPlainValue c.locals → AllByRecursion IsPlain (names_in c.apply) → IsFine (tops_tests p.main s (control q c ∷ ts)) → part_in p.main c.name ≡ place.Apply → ControlRuns (parts_of p) s sc c
  at_control q c ts s sc b t plain plain_body f e =
      (let fine : IsFine (control_tests place.Apply s c) = subst (λ (h : Part). IsFine (control_tests h s c)) e f.0 in
      let found = b.finds c.name (twice_not _ fine.0) ∙ this_control c ts q in
      let wanted = apply_name p.main c.name e p.at (structs_of (program_scope p) p) p.tops (typed_fine p typed).1.0.1.1 c found in
      let on : GoesOn s (program_scope p) = record { stays = λ x h. ap (λ (g : Scope). g (x ∷ [])) (sym b.all) ∙ stays p.main (control q c ∷ ts) s f x h } in
      control_runs (parts_of p) leave s sc c b.outer (inside_of (program_scope p) s p.tops (structs_of (program_scope p) p) structs on b.known p.at c.params wanted fine.1.0) t plain plain_body fine)

  -- a declaration that is no control
  next_at : (t : Top) (ts : List Top) (s : Scope) (sc : meaning.Scope) → IsAt (t ∷ ts) s sc → Known (after_top s t) → (behind_top sc t).inner ≡ None → ((x : List ℕ) → is_missing (after_top s t (x ∷ [])) ≡ true → (is_missing (s (x ∷ [])) ≡ true) × (control_named (t ∷ ts) x ≡ control_named ts x)) → IsAt ts (after_top s t) (behind_top sc t)
  next_at t ts s sc b known outer finds = record { known = known; outer = outer; all = b.all; finds = λ x m. (let k = finds x m in b.finds x k.0 ∙ k.1) }

  tops_run : (ts : List Top) (s : Scope) (sc : meaning.Scope) → IsAt ts s sc → TopsPlaces (IsTied (parts_of p)) s sc ts → HavePlainValues ts → IsFine (tops_tests p.main s ts) → TopsRun (parts_of p) p.main s sc ts
  tops_run [] s sc b t plain f = tt
  tops_run (constant q u x e ∷ ts) s sc b t plain f = tops_run ts _ _ (next_at (constant q u x e) ts s sc b (known_top p.main s b.known (constant q u x e) plain.0 f.0) b.outer (λ y m. ((was_missing s x (value Constant u) refl y m).before, refl))) t.1 plain.1 f.1
  tops_run (typedef q u x ∷ ts) s sc b t plain f = tops_run ts _ _ (next_at (typedef q u x) ts s sc b (known_top p.main s b.known (typedef q u x) tt f.0) b.outer (λ y m. ((was_missing s x (alias u) refl y m).before, refl))) t.1 plain f.1
  tops_run (header_type q x fs ∷ ts) s sc b t plain f = tops_run ts _ _ (next_at (header_type q x fs) ts s sc b (known_top p.main s b.known (header_type q x fs) tt f.0) b.outer (λ y m. ((was_missing s x (fields (Header _) fs) refl y m).before, refl))) t.1 plain f.1
  tops_run (struct_type q x fs ∷ ts) s sc b t plain f = tops_run ts _ _ (next_at (struct_type q x fs) ts s sc b (known_top p.main s b.known (struct_type q x fs) tt f.0) b.outer (λ y m. ((was_missing s x (fields Struct fs) refl y m).before, refl))) t.1 plain f.1
  tops_run (register q g ∷ ts) s sc b t plain f = tops_run ts _ _ (next_at (register q g) ts s sc b (known_top p.main s b.known (register q g) tt f.0) b.outer (λ y m. ((was_missing s g.name (scope.register g.ty) refl y m).before, refl))) t.1 plain.1 f.1
  tops_run (parser q d ∷ ts) s sc b t plain f = tops_run ts _ _ (next_at (parser q d) ts s sc b (known_top p.main s b.known (parser q d) tt f.0) b.outer (λ y m. ((was_missing s d.name part refl y m).before, refl))) t.1 plain f.1
  tops_run (control q c ∷ ts) s sc b t plain f = (
    (λ e. at_control q c ts s sc b (t.0.1 0 1 2) plain.0.0 plain.0.1 f e),
    tops_run ts _ _ (next_at (control q c) ts s sc b (known_top p.main s b.known (control q c) tt f.0) b.outer (λ y m. (let was = was_missing s c.name part refl y m in (was.before, other_control c ts q y was.apart)))) t.1 plain.1 f.1,
  )

pub controls_run : ControlsRun
controls_run p typed names values =
    tops_run p typed p.tops core no_scope (record { known = core_known; outer = refl; all = sym (all_first p.main core p.tops (typed_fine p typed).0); finds = λ x m. refl }) (each_tied p typed names) values (typed_fine p typed).0
