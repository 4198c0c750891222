-- Ingress, egress and compute checksum of each well-typed program.
use Rattle.std.proofs.Common.{◌≡◌, ℕ, List, [], ◌∷◌, Bool, true, false, cond, codes, Option, Some, None, refl, sym, ap, ◌∙◌, map, subst}
use Rattle.rule_tests.specs.Tests.{IsFine}
use Rattle.p4_tree.specs.Tree.{Stmts, and_then, Control, Top, control, Program, nothing, return_, exit_, call, done, next, Local}
use Rattle.p4_meaning.specs.Scope as meaning
use Rattle.p4_meaning.specs.Scope.{Roots, roots_of, is_among, full, full_name, own_names, names_in, names_in}
use Rattle.p4_meaning.specs.Under as under
use Rattle.p4_meaning.specs.Under.{no_scope, stmts_under, behind_locals, settings_under, arg_under, callee_under}
use Rattle.p4_meaning.specs.Actions.{action_named}
use Rattle.p4_meaning.specs.Tables.{Table, table_named}
use Rattle.p4_meaning.specs.Parts.{whole, body_of, control_named, parts_of, scope_at_control, named_in}
use Rattle.p4_scopes.specs.Scopes.{is_missing, typed, Scope, declare, core_name, value, core}
use Rattle.p4_scopes.specs.Uses.{is_scalar, is_header}
use Rattle.p4_scopes.specs.declared.thing.Thing.TheVariants.{Standard}
use Rattle.p4_scopes.specs.declared.thing.Function.{Function}
use Rattle.p4_scopes.specs.declared.thing.Function.TheVariants.{MarkToDrop, Digest, VerifyChecksum, UpdateChecksum}
use Rattle.p4_tree.specs.declared.program.Param.{Param}
use Rattle.p4_statement_rules.specs.declared.rule.Part.TheVariants as place
use Rattle.p4_declaration_rules.specs.Parsers.{way_access, with_ways}
use Rattle.p4_declaration_rules.specs.Controls.{in_control, control_tests, tops_tests, locals_tests, after_locals, part_in}
use Rattle.p4_rule_laws.specs.OldPrograms.{OldControl, OldTops}
use Rattle.p4_rules.specs.Mains.{structs_of, apply_wants, wanted_tests, checksum_wants, Wanted, Structs, names_parts, control_params, parts_params}
use Rattle.p4_rules.specs.ProgramRules.{program_scope, IsWellTyped}
use Rattle.p4_typing_laws.specs.Places.{ControlUses, BlockUses}
use Rattle.p4_typing_laws.specs.Names.{UseAgrees}
use Rattle.p4_typing_laws.proofs.Fine.{typed_fine}
use Rattle.p4_typing_laws.proofs.CallCounts.{function_name}
use Rattle.p4_typing_laws.proofs.FullNames.{knows_all}
use Rattle.p4_typing_laws.proofs.CountedNames.{Calls, quiet_calls}
use Rattle.p4_typing_laws.proofs.CountedLocals.{own_missing, own_new}
use Rattle.p4_typing_laws.proofs.TiedNames.{block_missing}
use Rattle.p4_typing_laws.proofs.KnownScopes.{stays}
use Rattle.p4_typing_laws.proofs.HiddenParams.{AreStructs, struct_if, GoesOn, Inside, inside_of}
use Rattle.exit_statements.specs.Free.{AreFreeStmts}
use Rattle.exit_statements.specs.Laws.{is_other}
use Rattle.exit_statements.specs.Actions.{all_but}
use Rattle.exit_statements.specs.Controls.{var_names, nothing_seen, IsFreeControl, IsPlain}
use Rattle.exit_statements.specs.WrittenActions.{returned_in}
use Rattle.exit_programs.specs.Programs.{flags}
use Rattle.p4_typing_laws.specs.Plain.{is_plain, has_point}
use Rattle.exit_programs.specs.Names.{is_given, HasGivenNames, HasPlainNames}
use Rattle.exit_programs.specs.Calls.{FindStmts}
use Rattle.exit_programs.proofs.MainParts.{have_parts}
use Rattle.exit_programs.specs.Owned.{all_actions, all_tables, actions_own, tables_own, OwnsWhatItUses}
use Rattle.p4_meaning.specs.Statements.{Act, runs, act_of}
use Rattle.p4_statement_rules.specs.Statements.{block_tests}
use Rattle.exit_statements.specs.Without.{no_exits, call_leaves, stmts_leave}
use Rattle.p4_statement_rules.specs.declared.rule.Part.{Part}
use Rattle.p4_typing_laws.proofs.FineUses.{each_agrees, parts_named}
use Rattle.exit_names.specs.Laws.{ControlsOwn}
use Rattle.exit_names.proofs.Names.{broken, not_true, old_names}
use Rattle.exit_names.proofs.Blocks.{NamesFunctions, IsAt, block_free}
use Rattle.exit_names.proofs.Controls.{apply_run, are_vars, vars_may, NewHere, own_here, new_here, IsBefore, settings_free, actions_free, tables_free}
use Rattle.exit_names.proofs.Found.{finds_at, FindsOwn, calls_found, actions_within, tables_within}
use Rattle.exit_names.proofs.Tops.{ReadsNone, none_sees, ways_none, apply_whole, checksum_whole, Anyone, IsAtTop, at_control}

-- ---- names of functions

ways_calls : (qs : List Param) (s : Scope) → Calls Anyone Anyone s → Calls Anyone Anyone (with_ways s qs)
ways_calls [] s c = c
ways_calls (q ∷ qs) s c = ways_calls qs (declare s q.name (value (way_access q.way) q.ty)) (quiet_calls Anyone Anyone s c q.name (value (way_access q.way) q.ty) tt)

function_core : (f : Function) → is_missing (core_name (function_name f)) ≡ false
function_core MarkToDrop = refl
function_core Digest = refl
function_core VerifyChecksum = refl
function_core UpdateChecksum = refl

names_functions : (s : Scope) (sc : meaning.Scope) → Calls Anyone Anyone s → ((f : Function) → is_among sc.own (function_name f) ≡ false) → NamesFunctions s sc
names_functions s sc calls apart = record { functions = λ x f e. ap (full_name sc) (calls.functions x f e) ∙ ap (λ (b : Bool). cond b (full sc.control (function_name f)) (function_name f)) (apart f) }

-- ---- a part that has its one call alone

-- nothing is declared there
abbrev Nothing : List ℕ → Type 0
Nothing x = ⊥

quiet_call : (a : Act) → call_leaves no_exits a ≡ false
quiet_call (runs x es) = refl
quiet_call _ = refl

calls_alone : (sc : meaning.Scope) (ss : Stmts) (s : Scope) → IsFine (block_tests place.Compute s ss) → (names_in ss ≡ []) × (stmts_leave no_exits (stmts_under sc ss) ≡ false)
calls_alone sc done s f = (refl, refl)
calls_alone sc (next (call p x args) ss) s f = (let more = calls_alone sc ss s f.1 in (more.0, (let one = quiet_call (act_of (callee_under sc x) (map (arg_under sc) args)) in let rest = more.1 in cc)))
calls_alone sc (next (nothing p) ss) s f = broken f.0
calls_alone sc (next (return_ p) ss) s f = broken f.0
calls_alone sc (next (exit_ p) ss) s f = broken f.0
calls_alone sc (next _ ss) s f = broken f.0.0

body_plain : (s : Scope) (sd : meaning.Scope) (ls : List Local) (body : Stmts) → IsFine (locals_tests place.Compute s ls) → IsFine (block_tests place.Compute (after_locals s ls) body) → BlockUses UseAgrees (after_locals s ls) body
    → (own_names ls ≡ [] → IsAt Nothing s sd (all_but nothing_seen)) → IsPlain flags has_point (and_then (settings_under sd ls) (stmts_under (behind_locals sd ls) body))
body_plain s sd [] body h f u at =
    (let alone = calls_alone sd body s f in
    record { free = block_free flags (is_other has_point) Nothing sd (record { apart = λ x y h k e. absurd h; no_flag = λ x h. absurd h; may_be = λ x h. absurd h }) body place.Compute (record { extracts = refl; emits = refl; verifies = refl }) s (all_but nothing_seen) (at refl) (λ m i. broken (sym i ∙ ap (λ (xs : List (List ℕ)). is_among xs m) alone.0)) f u; stays = alone.1 })
body_plain s sd (l ∷ ls) body h f u at = broken h.0.0

-- what a control owns and uses, in front of which this scope stands
abbrev OwnsHere : Program → meaning.Scope → Option Control → Type 0
OwnsHere p sc o =
    IsFreeControl flags (returned_in flags) has_point (actions_own sc o) (tables_own sc (all_actions p) o) (body_of 0 1 2 sc o)
    × FindStmts (all_actions p) (actions_own sc o) (all_tables p) (tables_own sc (all_actions p) o) (whole (body_of 0 1 2 sc o))
    × ((x : List ℕ) → action_named (all_actions p) x ≡ None → action_named (actions_own sc o) x ≡ None)
    × ((x : List ℕ) (t : Table) → table_named (tables_own sc (all_actions p) o) x ≡ Some t → table_named (all_tables p) x ≡ Some t)

-- what is known of the place of a control that `main` names, with the parameters that are wanted
module _ (p : Program) (q : ℕ) (c : Control) (ts : List Top) (s : Scope) (sc : meaning.Scope) (b : IsAtTop p (control q c ∷ ts) s sc) (f : IsFine (tops_tests p.main s (control q c ∷ ts))) where
  goes_on : GoesOn s (program_scope p)
  goes_on = record { stays = λ x h. ap (λ (g : Scope). g (x ∷ [])) (sym b.all) ∙ stays p.main (control q c ∷ ts) s f x h }

  structs : AreStructs (program_scope p) p.tops (structs_of (program_scope p) p)
  structs = (λ h. struct_if is_header (program_scope p) p.tops _ h, λ h. struct_if is_scalar (program_scope p) p.tops _ h)

  standard_there : program_scope p (codes "standard_metadata_t" ∷ []) ≡ typed false Standard
  standard_there = (let here = b.known.core.kept (codes "standard_metadata_t") refl in goes_on.stays (codes "standard_metadata_t") (ap is_missing here) ∙ here)

  module _ (given : OldControl is_given c) (plain : OldControl is_plain c) (uses : ControlUses UseAgrees s c) (fine : IsFine (control_tests place.Apply s c)) (wanted : IsFine (wanted_tests p.at (structs_of (program_scope p) p) apply_wants c.params)) where
    abbrev sd : meaning.Scope
    sd = under.in_control 0 1 2 sc c

    abbrev r : Roots
    r = roots_of c.params 0 1 2

    abbrev sets : Stmts
    sets = settings_under sd c.locals

    inside : Inside s c.params
    inside = inside_of (program_scope p) s p.tops (structs_of (program_scope p) p) structs goes_on b.known p.at c.params wanted fine.1.0

    none : ReadsNone (with_ways s c.params) sc
    none = ways_none (program_scope p) sc c.params s (record { stays = λ t h k. goes_on.stays t h }) (apply_whole (program_scope p) (structs_of (program_scope p) p) structs.0 structs.1 standard_there p.at c.params wanted) fine.1.0 b.none

    begins : IsBefore (parts_of p) r c.name (is_among (var_names sets)) (with_ways s c.params) sd c.locals (all_but nothing_seen)
    begins =
        record {
          placed = record { known = inside.known; hidden = inside.hidden; control = record { inner = b.outer; roots = refl } };
          at =
              record {
                sees = none_sees (with_ways s c.params) sc 0 1 2 c nothing_seen none;
                hidden = λ x h m. refl;
                functions = names_functions (with_ways s c.params) sd (ways_calls c.params s b.calls) (λ g. (own_new (own_names c.locals) (with_ways s c.params) inside.known.core (own_missing place.Apply c.locals (with_ways s c.params) fine.1.1.0)).apart (function_name g) (function_core g));
              };
          seen_there = none_sees (with_ways s c.params) sc 0 1 2 c (is_among (var_names sets)) none;
          knows = knows_all 0 1 2 sc c;
          vars = λ y i. i;
        }

    whole_free : AreFreeStmts flags (is_other has_point) (all_but nothing_seen) (and_then sets (stmts_under (behind_locals sd c.locals) c.apply))
    whole_free =
        settings_free (parts_of p) r c.name (is_among (var_names sets)) (stmts_under (behind_locals sd c.locals) c.apply) c.locals (with_ways s c.params) sd (all_but nothing_seen) begins given.locals plain.locals fine.1.1.0 uses.1
        (λ end e.
        block_free flags (is_other has_point) (NewHere (parts_of p) r c.name) (behind_locals sd c.locals) (own_here (parts_of p) r c.name (behind_locals sd c.locals) e.placed.control) c.apply place.Apply apply_run (in_control s c) end e.at
        (λ m i. new_here (parts_of p) r c.name (in_control s c) (behind_locals sd c.locals) e.placed m (block_missing c.apply place.Apply (in_control s c) fine.1.1.1.0 m i) (old_names is_given m c.apply given.apply i) (old_names is_plain m c.apply plain.apply i))
        fine.1.1.1.0 uses.2)

    owns_here : OldTops is_plain p.tops → FindsOwn p sc (Some c) c.name → OwnsHere p sc (Some c)
    owns_here names finds = (
      record {
        two = refl;
        vars = are_vars c.locals sd;
        free = whole_free;
        actions = actions_free (parts_of p) r c.name (is_among (var_names sets)) (λ y i. not_true (has_point y) (vars_may (is_other has_point) sets (stmts_under (behind_locals sd c.locals) c.apply) (all_but nothing_seen) whole_free y i)) c.locals (with_ways s c.params) sd (all_but nothing_seen) begins given.locals plain.locals fine.1.1.0 uses.1;
        tables = tables_free (parts_of p) r c.name (is_among (var_names sets)) (all_actions p) c.locals (with_ways s c.params) sd (all_but nothing_seen) begins given.locals plain.locals fine.1.1.0 uses.1;
      },
      calls_found p names c plain sc finds,
      actions_within p names c plain sc finds,
      tables_within p names c plain sc finds,
    )

  -- ---- compute checksum, which has its one call alone

  module _ (uses : ControlUses UseAgrees s c) (fine : IsFine (control_tests place.Compute s c)) (wanted : IsFine (wanted_tests p.at (structs_of (program_scope p) p) checksum_wants c.params)) where
    compute_here : IsPlain flags has_point (whole (body_of 0 1 9 sc (Some c)))
    compute_here =
        body_plain (with_ways s c.params) (under.in_control 0 1 9 sc c) c.locals c.apply fine.1.1.0 fine.1.1.1.0 uses.2
        (λ none.
        (let whole = checksum_whole (program_scope p) (structs_of (program_scope p) p) structs.0 structs.1 standard_there p.at c.params wanted in
        record {
          sees = none_sees (with_ways s c.params) sc 0 1 9 c nothing_seen (ways_none (program_scope p) sc c.params s (record { stays = λ t h k. goes_on.stays t h }) whole fine.1.0 b.none);
          hidden = λ x h m. refl;
          functions = names_functions (with_ways s c.params) (under.in_control 0 1 9 sc c) (ways_calls c.params s b.calls) (λ g. ap (λ (xs : List (List ℕ)). is_among xs (function_name g)) none);
        }))

-- ---- what `main` names

-- a name of `main` is that of such a part, with the parameters that are wanted
record IsPart (at : ℕ) (R : Structs) (ts : List Top) (main : List (List ℕ)) (h : Part) (ws : List Wanted) (x : List ℕ) : Type 0 where
  part : part_in main x ≡ h
  params : IsFine (control_params at R ws (control_named ts x))

parts_there : (at : ℕ) (R : Structs) (ts : List Top) (main : List (List ℕ)) → names_parts ts main ≡ true → IsFine (parts_params at R ts main)
    → IsPart at R ts main place.Apply apply_wants (named_in main 2) × IsPart at R ts main place.Apply apply_wants (named_in main 3) × IsPart at R ts main place.Compute checksum_wants (named_in main 4)
parts_there at R ts (d ∷ v ∷ i ∷ e ∷ k ∷ m ∷ []) h f =
    let main = have_parts ts (d ∷ v ∷ i ∷ e ∷ k ∷ m ∷ []) h in
    (record { part = main.ingress; params = f.1.1.0 }, record { part = main.egress; params = f.1.1.1.0 }, record { part = main.compute; params = f.1.1.1.1.0 })
parts_there at R ts _ h f = broken (sym h)

-- ---- the parts

module _ (p : Program) (well : IsWellTyped p) (given : HasGivenNames p) (plain : HasPlainNames p) where
  abbrev R : Structs
  R = structs_of (program_scope p) p

  -- the tests of the control of a part
  part_fine : (h : Part) (c : Control) (x : List ℕ) (s : Scope) → c.name ≡ x → part_in p.main x ≡ h → IsFine (control_tests (part_in p.main c.name) s c) → IsFine (control_tests h s c)
  part_fine h c x s e k f = subst (λ (g : Part). IsFine (control_tests g s c)) (ap (part_in p.main) e ∙ k) f

  applied : (x : List ℕ) → IsPart p.at R p.tops p.main place.Apply apply_wants x → OwnsHere p (scope_at_control no_scope p.tops x) (control_named p.tops x)
  applied x is =
      at_control p (λ sc o. IsFine (control_params p.at R apply_wants o) → FindsOwn p sc o x → OwnsHere p sc o) x (λ sc w finds. (record { two = refl; vars = tt; free = tt; actions = tt; tables = tt }, tt, (λ y h. refl), (λ y t h. absurd (cc))))
      (λ q c ts s sc b e g o f u w finds.
      owns_here p q c ts s sc b f g o u (part_fine place.Apply c x s e is.part f.0) w plain.tops (subst (λ (d : List ℕ). FindsOwn p sc (Some c) d) (sym e) finds))
      well (each_agrees p well) given.tops plain.tops is.params
      (record {
        actions = λ y h. sym (finds_at p.main x y h (all_actions p) p.tops core no_scope plain.tops (typed_fine p well).0).0;
        tables = λ y h. sym (finds_at p.main x y h (all_actions p) p.tops core no_scope plain.tops (typed_fine p well).0).1;
      })

  owned : (n : ℕ) → IsPart p.at R p.tops p.main place.Apply apply_wants (named_in p.main n) → OwnsWhatItUses p n
  owned n is = (let o = applied (named_in p.main n) is in record { free = o.0; found = o.1; actions_within = o.2; tables_within = o.3 })

  computed : (x : List ℕ) → IsPart p.at R p.tops p.main place.Compute checksum_wants x → IsPlain flags has_point (whole (body_of 0 1 9 (scope_at_control no_scope p.tops x) (control_named p.tops x)))
  computed x is =
      at_control p (λ sc o. IsFine (control_params p.at R checksum_wants o) → IsPlain flags has_point (whole (body_of 0 1 9 sc o))) x (λ sc w. record { free = tt; stays = refl })
      (λ q c ts s sc b e g o f u w. compute_here p q c ts s sc b f u (part_fine place.Compute c x s e is.part f.0) w) well (each_agrees p well) given.tops plain.tops is.params

pub controls_own : ControlsOwn
controls_own p well given plain =
    (let parts = parts_there p.at (structs_of (program_scope p) p) p.tops p.main (parts_named p well) (typed_fine p well).1.0.1.1 in
    (owned p well given plain 2 parts.0, owned p well given plain 3 parts.1, computed p well given plain (named_in p.main 4) parts.2))
