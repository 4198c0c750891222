-- What is seen along ingress and egress: while their variables are set, at each statement of their bodies and of their
-- actions, and at the keys of their tables.
use Rattle.std.proofs.Common.{◌≡◌, ℕ, List, [], ◌∷◌, refl, subst}
use Rattle.std.specs.List.{AllByRecursion}
use Rattle.bit_values.specs.Bits.{Word}
use Rattle.rule_tests.specs.Tests.{IsFine}
use Rattle.p4_tree.specs.Tree as tree
use Rattle.p4_tree.specs.Tree.{Stmt, Stmts, Local, local_action, local_table, local_register, local_const, local_var, var, Control, Program}
use Rattle.p4_meaning.specs.Store.{Store}
use Rattle.p4_meaning.specs.Statements.{Run, Calls, in_store, no_calls, meaning_of_stmt, meaning_of}
use Rattle.p4_meaning.specs.Scope as meaning
use Rattle.p4_meaning.specs.Scope.{Roots, roots_of}
use Rattle.p4_meaning.specs.Under as under
use Rattle.p4_meaning.specs.Under.{no_scope, stmt_under, behind_local, behind_locals, settings_under}
use Rattle.p4_meaning.specs.Actions.{in_action, action_under, bound}
use Rattle.p4_meaning.specs.Tables.{Tables, calls_in}
use Rattle.p4_meaning.specs.Parts.{Parts, parts_of}
use Rattle.p4_meaning.specs.Laws.{AreWords}
use Rattle.p4_scopes.specs.Scopes.{Scope}
use Rattle.p4_scopes.specs.Uses.{is_header, is_scalar}
use Rattle.p4_statement_rules.specs.declared.rule.Part.{Part}
use Rattle.p4_statement_rules.specs.declared.rule.Part.TheVariants as place
use Rattle.p4_declaration_rules.specs.Declarations.{with_params}
use Rattle.p4_declaration_rules.specs.Parsers.{with_ways}
use Rattle.p4_declaration_rules.specs.Controls.{after_local, locals_tests, after_locals, in_control, control_tests, part_in}
use Rattle.p4_rules.specs.Mains.{apply_wants, structs_of, wanted_tests}
use Rattle.p4_typing_laws.specs.Plain.{IsPlainValue}
use Rattle.p4_typing_laws.specs.Tied.{IsTied, LocalsPlaces}
use Rattle.p4_typing_laws.specs.Stores.{Fits}
use Rattle.p4_typing_laws.specs.Along.{CallsLeave, Along, RunFits}
use Rattle.p4_typing_laws.specs.Runs.{GoesOnToFit, LocalsRun, ControlRuns}
use Rattle.p4_typing_laws.proofs.SoundScopes.{params_sound}
use Rattle.p4_typing_laws.proofs.KeptPlaces.{HasPlaces, bound_keeps, bound_none}
use Rattle.p4_typing_laws.proofs.ReadyPlaces.{NoPoints, tops_spare, program_calls}
use Rattle.p4_typing_laws.proofs.HiddenParams.{AreStructs, struct_if, Inside, inside_of}
use Rattle.p4_typing_laws.proofs.RunPlaces.{back_all, FitsRun, IsPlaced, placed_more, placed_end, settings_fit}
use Rattle.passage_stores.specs.FitStores.{IsFit}
use Rattle.passage_stores.specs.SeenStores.{Sees, SeesAt, AlongSettings, LocalsSee, ControlSees}
use Rattle.passage_stores.proofs.KeptStores.{IsLong, HavePaths, long_params, fit_kept, fit_standard, CallsFit, no_calls_fit, program_calls_fit, stmt_fits, stmts_fit}
use Rattle.passage_stores.proofs.SeenNames.{KnowsNames, ways_names, params_names, local_names, OwnsNone, control_owns, local_owns, locals_own}
use Rattle.passage_stores.proofs.SeenBlocks.{GoesOnFit, both_block, fit_block, IsKnown, seen_of, known_block}
use Rattle.passage_stores.proofs.Fronts.{AtControl}
use Rattle.passage_stores.proofs.BegunSights.{IsEnd, apply_begins}

-- ---- places along the declarations of a control

module _ (P : Scope → meaning.Scope → Type 0) where
  pub locals_first : (ls : List Local) (s : Scope) (sd : meaning.Scope) → LocalsPlaces P s sd ls → P s sd
  locals_first [] s sd h = h
  locals_first (local_action q a ∷ ls) s sd h = h.0.0
  locals_first (local_table q t ∷ ls) s sd h = h.0
  locals_first (local_register q g ∷ ls) s sd h = h.0
  locals_first (local_const q t x e ∷ ls) s sd h = h.0
  locals_first (local_var q t x e ∷ ls) s sd h = h.0

  pub locals_last : (ls : List Local) (s : Scope) (sd : meaning.Scope) → LocalsPlaces P s sd ls → P (after_locals s ls) (behind_locals sd ls)
  locals_last [] s sd h = h
  locals_last (l ∷ ls) s sd h = locals_last ls (after_local s l) (behind_local sd l) h.1

abbrev pub Words : Scope → meaning.Scope → Type 0
Words s sd = AreWords sd

locals_names : (h : Part) (ls : List Local) (s : Scope) → KnowsNames s → IsFine (locals_tests h s ls) → KnowsNames (after_locals s ls)
locals_names h [] s k f = k
locals_names h (l ∷ ls) s k f = locals_names h ls (after_local s l) (local_names h s k l f.0) f.1

-- ---- along the declarations of ingress or egress

module _ (pt : Parts) (paths : HavePaths pt.headers) (r : Roots) where
  -- what is known in front of declarations
  record IsInFront (s : Scope) (sd : meaning.Scope) (ls : List Local) : Type 0 where
    tied : LocalsPlaces (IsTied pt) s sd ls
    words : LocalsPlaces Words s sd ls
    placed : IsPlaced pt r s sd
    names : KnowsNames s
    owns : OwnsNone sd
    plain : AllByRecursion IsPlainValue ls
    fine : IsFine (locals_tests place.Apply s ls)

  in_front_next : (l : Local) (ls : List Local) (s : Scope) (sd : meaning.Scope) → IsInFront s sd (l ∷ ls) → IsInFront (after_local s l) (behind_local sd l) ls
  in_front_next l ls s sd b =
      record {
        tied = b.tied.1;
        words = b.words.1;
        placed = placed_more pt r s sd l b.placed b.plain.0 b.fine.0;
        names = local_names place.Apply s b.names l b.fine.0;
        owns = local_owns sd l b.owns;
        plain = b.plain.1;
        fine = b.fine.1;
      }

  known_here : (ls : List Local) (s : Scope) (sd : meaning.Scope) → IsInFront s sd ls → IsKnown pt s sd
  known_here ls s sd b = record { tied = locals_first (IsTied pt) ls s sd b.tied; sound = b.placed.known.sound; names = b.names; words = locals_first Words ls s sd b.words; owns = b.owns }

  known_end : (ls : List Local) (s : Scope) (sd : meaning.Scope) → IsInFront s sd ls → IsKnown pt (after_locals s ls) (behind_locals sd ls)
  known_end ls s sd b =
      record {
        tied = locals_last (IsTied pt) ls s sd b.tied;
        sound = (placed_end pt r ls s sd b.placed b.plain b.fine).known.sound;
        names = locals_names place.Apply ls s b.names b.fine;
        words = locals_last Words ls s sd b.words;
        owns = locals_own ls sd b.owns;
      }

  -- ---- variables

  module _ (calls : Calls) (leave : (K : List (List ℕ) → Type 0) → HasPlaces K → NoPoints K → CallsLeave K calls) (fit : CallsFit calls) where
    abbrev Seen : Scope → meaning.Scope → Run → Type 0
    Seen s sd q = Sees pt s sd q.store × IsFit pt q.store

    -- behind one declaration
    one_set : (l : Local) (ls : List Local) (s : Scope) (sd : meaning.Scope) → IsInFront s sd (l ∷ ls) → (q : Run) → FitsRun pt r calls leave s sd q → LocalsPlaces (IsTied pt) s sd (l ∷ []) → FitsRun pt r calls leave (after_local s l) (behind_local sd l) (meaning_of calls (settings_under sd (l ∷ [])) q).0
    one_set l ls s sd b q h t = settings_fit pt r calls leave (l ∷ []) s sd t b.placed (b.plain.0, tt) (b.fine.0, tt) q h

    settings_seen : (ls : List Local) (s : Scope) (sd : meaning.Scope) → IsInFront s sd ls → (q : Run) → FitsRun pt r calls leave s sd q → IsFit pt q.store → AlongSettings calls Seen s sd ls q
    settings_seen [] s sd b q h k = tt
    settings_seen (local_action o a ∷ ls) s sd b q h k = settings_seen ls _ _ (in_front_next (local_action o a) ls s sd b) q (one_set (local_action o a) ls s sd b q h (b.tied.0, locals_first (IsTied pt) ls _ _ b.tied.1)) k
    settings_seen (local_table o t ∷ ls) s sd b q h k = settings_seen ls _ _ (in_front_next (local_table o t) ls s sd b) q (one_set (local_table o t) ls s sd b q h (b.tied.0, locals_first (IsTied pt) ls _ _ b.tied.1)) k
    settings_seen (local_register o g ∷ ls) s sd b q h k = settings_seen ls _ _ (in_front_next (local_register o g) ls s sd b) q (one_set (local_register o g) ls s sd b q h (b.tied.0, locals_first (IsTied pt) ls _ _ b.tied.1)) k
    settings_seen (local_const o t x e ∷ ls) s sd b q h k = settings_seen ls _ _ (in_front_next (local_const o t x e) ls s sd b) q (one_set (local_const o t x e) ls s sd b q h (b.tied.0, locals_first (IsTied pt) ls _ _ b.tied.1)) k
    settings_seen (local_var o t x e ∷ ls) s sd b q h k = (
      (seen_of pt s sd (known_here (local_var o t x e ∷ ls) s sd b) q.store h.fits, k),
      settings_seen ls _ _ (in_front_next (local_var o t x e) ls s sd b) (meaning_of_stmt calls (stmt_under sd (var o t x e)) q).0 (one_set (local_var o t x e) ls s sd b q h (b.tied.0, locals_first (IsTied pt) ls _ _ b.tied.1))
          (stmt_fits pt paths calls fit (stmt_under sd (var o t x e)) q k),
    )

  -- ---- actions and keys

  -- S, SD: in sight in the control's body
  module _ (S : Scope) (SD : meaning.Scope) where
    action_known : (o : ℕ) (a : tree.Action) (ls : List Local) (s : Scope) (sd : meaning.Scope) → IsInFront s sd (local_action o a ∷ ls) → IsKnown pt (with_params s a.params) (in_action sd a)
    action_known o a ls s sd b =
        record {
          tied = b.tied.0.1;
          sound = params_sound a.at a.params s b.placed.known.sound b.fine.0.1.1.0;
          names = params_names a.at a.params s b.names b.fine.0.1.1.0;
          words = b.words.0.1;
          owns = record { full = b.owns.full; plain = b.owns.plain };
        }

    action_seen : (o : ℕ) (a : tree.Action) (ls : List Local) (s : Scope) (sd : meaning.Scope) → IsInFront s sd (local_action o a ∷ ls) → (q : Run) → IsFit pt q.store
        → Along no_calls RunFits (with_params s a.params) (in_action sd a) a.body q → Along no_calls (λ t td c u. Sees pt t td u.store × IsFit pt u.store) (with_params s a.params) (in_action sd a) a.body q
    action_seen o a ls s sd b q k w =
        known_block pt no_calls (in_action sd a) (λ t td c u. RunFits t td c u × IsFit pt u.store) (λ t td c u. Sees pt t td u.store × IsFit pt u.store) (λ t c u known h. (seen_of pt t (in_action sd a) known u.store h.0, h.1))
        a.body place.Action (with_params s a.params) (action_known o a ls s sd b) b.fine.0.1.1.1 q
        (both_block no_calls RunFits (GoesOnFit pt paths no_calls no_calls_fit (in_action sd a)) (in_action sd a) a.body (with_params s a.params) q w (fit_block pt paths no_calls no_calls_fit (in_action sd a) a.body (with_params s a.params) q k))

    bound_fit : (sd : meaning.Scope) (a : tree.Action) (ws : List Word) (st : Store) → IsFit pt st → IsFit pt (bound (action_under sd a).params ws st)
    bound_fit sd a ws st k = fit_kept pt paths st (bound (action_under sd a).params ws st) (bound_keeps IsLong (action_under sd a).params ws st (long_params (action_under sd a).params)) (bound_none (action_under sd a).params ws st k.plain) k

    locals_seen : (ls : List Local) (s : Scope) (sd : meaning.Scope) → IsInFront s sd ls → ((st : Store) → Fits S SD st → Fits (after_locals s ls) (behind_locals sd ls) st) → LocalsRun S SD s sd ls → LocalsSee pt S SD s sd ls
    locals_seen [] s sd b end w = tt
    locals_seen (local_action o a ∷ ls) s sd b end w = (
      λ ws q k. action_seen o a ls s sd b (in_store q (bound (action_under sd a).params ws q.store)) (bound_fit sd a ws q.store k.program) (w.0 ws q k.control (fit_standard pt q.store k.program)),
      locals_seen ls _ _ (in_front_next (local_action o a) ls s sd b) end w.1,
    )
    locals_seen (local_table o t ∷ ls) s sd b end w = (
      λ q k. seen_of pt s sd (known_here (local_table o t ∷ ls) s sd b) q.store (back_all pt r (local_table o t ∷ ls) s sd q.store b.placed b.plain b.fine (end q.store k.control)),
      locals_seen ls _ _ (in_front_next (local_table o t) ls s sd b) end w.1,
    )
    locals_seen (local_register o g ∷ ls) s sd b end w = (tt, locals_seen ls _ _ (in_front_next (local_register o g) ls s sd b) end w.1)
    locals_seen (local_const o t x e ∷ ls) s sd b end w = (tt, locals_seen ls _ _ (in_front_next (local_const o t x e) ls s sd b) end w.1)
    locals_seen (local_var o t x e ∷ ls) s sd b end w = (tt, locals_seen ls _ _ (in_front_next (local_var o t x e) ls s sd b) end w.1)

-- ---- ingress or egress

module _ (p : Program) (paths : HavePaths (parts_of p).headers) (S : Scope) (end : IsEnd p S) (s : Scope) (sc : meaning.Scope) (c : Control) (at : AtControl (parts_of p) p.main S s sc c) (runs_there : part_in p.main c.name ≡ place.Apply)
    (wanted : IsFine (wanted_tests p.at (structs_of S p) apply_wants c.params))
  where
    abbrev Of : Parts
    Of = parts_of p

    abbrev Begin : meaning.Scope
    Begin = under.in_control 0 1 2 sc c

    fine : IsFine (control_tests place.Apply s c)
    fine = subst (λ (h : Part). IsFine (control_tests h s c)) runs_there at.fine

    structs : AreStructs S p.tops (structs_of S p)
    structs = (λ h. struct_if is_header S p.tops _ h, λ h. struct_if is_scalar S p.tops _ h)

    inside : Inside s c.params
    inside = inside_of S s p.tops (structs_of S p) structs (record { stays = λ x h. at.front.stays x [] h }) at.front.known p.at c.params wanted fine.1.0

    first_names : KnowsNames (with_ways s c.params)
    first_names = ways_names c.params s at.front.names fine.1.0

    in_front : IsInFront Of paths (roots_of c.params 0 1 2) (with_ways s c.params) Begin c.locals
    in_front =
        record {
          tied = at.places 0 1 2;
          words = at.words 0 1 2;
          placed = record { known = inside.known; hidden = inside.hidden; control = record { inner = at.front.outer; roots = refl } };
          names = first_names;
          owns = control_owns place.Apply Begin c.locals (with_ways s c.params) refl first_names fine.1.1.0;
          plain = at.values.0;
          fine = fine.1.1.0;
        }

    runs : ControlRuns Of s sc c
    runs = at.runs runs_there

    leave : (held : Tables) (K : List (List ℕ) → Type 0) → HasPlaces K → NoPoints K → CallsLeave K (calls_in Of.actions Of.tables held)
    leave held K places none = program_calls K places Of.actions (tops_spare K none p.tops no_scope) Of.tables held

    pub apply_sees : (held : Tables) (q : Run) → IsFit Of q.store → ControlSees Of 0 1 2 s sc c (calls_in Of.actions Of.tables held) q
    apply_sees held q k =
        (let calls = calls_in Of.actions Of.tables held in
        let fit = program_calls_fit Of.actions Of.tables held in
        let T = in_control s c in
        let TD = behind_locals Begin c.locals in
        let fits = apply_begins p S end s sc at.front q.store k p.at c wanted fine.1.0 in
        let standard = fit_standard Of q.store k in
        let u = (meaning_of calls (settings_under Begin c.locals) q).0 in
        let all = both_block calls RunFits (λ t td d v. GoesOnToFit T TD t td d v × IsFit Of v.store) TD c.apply T u (runs.body held q fits standard)
        (both_block calls (GoesOnToFit T TD) (GoesOnFit Of paths calls fit TD) TD c.apply T u (runs.control held q fits standard) (fit_block Of paths calls fit TD c.apply T u (stmts_fit Of paths calls fit (settings_under Begin c.locals) q k))) in
        record {
          settings = settings_seen Of paths (roots_of c.params 0 1 2) calls (leave held) fit c.locals (with_ways s c.params) Begin in_front q (record { fits = fits; standard = standard }) k;
          body =
              known_block Of calls TD (λ t td d v. RunFits t td d v × (GoesOnToFit T TD t td d v × IsFit Of v.store)) (SeesAt Of T TD) (λ t d v known h. (seen_of Of t TD known v.store h.0, record { control = h.1.0; program = h.1.1 })) c.apply place.Apply T
              (known_end Of paths (roots_of c.params 0 1 2) c.locals (with_ways s c.params) Begin in_front) fine.1.1.1.0 u all;
          locals = locals_seen Of paths (roots_of c.params 0 1 2) T TD c.locals (with_ways s c.params) Begin in_front (λ st h. h) runs.actions;
        })
