-- Ingress and egress of a well-typed program, and their actions: at each statement that a run comes to the store fits both
-- scopes, so that each expression there has its static width. Read `Along` before it.
use Rattle.std.specs.Prelude.{◌≡◌, ℕ, List, [], ◌∷◌, Some}
use Rattle.bit_values.specs.Bits.{Word}
use Rattle.p4_tree.specs.Tree.{Stmt, Local, local_action, local_table, local_register, local_const, local_var, Action, Control, Top, constant, typedef, header_type, struct_type, register, parser, control, Program}
use Rattle.p4_meaning.specs.Statements.{Run, in_store, no_calls, meaning_of}
use Rattle.p4_meaning.specs.Scope as meaning
use Rattle.p4_meaning.specs.Under as under
use Rattle.p4_meaning.specs.Under.{no_scope, behind_top, behind_local, behind_locals, settings_under}
use Rattle.p4_meaning.specs.Actions.{in_action, action_under, bound}
use Rattle.p4_meaning.specs.Tables.{Tables, calls_in}
use Rattle.p4_meaning.specs.Parts.{Parts, whole, body_of, parts_of}
use Rattle.p4_meaning.specs.Laws.{HasStandard}
use Rattle.p4_scopes.specs.Scopes.{Scope, core}
use Rattle.p4_statement_rules.specs.declared.rule.Part.TheVariants as place
use Rattle.p4_declaration_rules.specs.Declarations.{with_params}
use Rattle.p4_declaration_rules.specs.Parsers.{with_ways}
use Rattle.p4_declaration_rules.specs.Controls.{after_local, in_control, part_in, after_top}
use Rattle.p4_rules.specs.ProgramRules.{IsWellTyped}
use Rattle.p4_typing_laws.specs.Plain.{HavePlainNames, HavePlainValues}
use Rattle.p4_typing_laws.specs.Stores.{Fits}
use Rattle.p4_typing_laws.specs.Along.{Along, RunFits}

-- ---- runs

-- in all statements the store goes on to fit these scopes
abbrev pub GoesOnToFit : (s : Scope) (sc : meaning.Scope) → Scope → meaning.Scope → Stmt → Run → Type 0
GoesOnToFit s sc t td c r = Fits s sc r.store

-- S, SC: in sight in the control's body. An action on any words, in a run whose store fits the control
abbrev pub ActionRuns : (S : Scope) (SC : meaning.Scope) → Scope → meaning.Scope → Action → Type 0
ActionRuns S SC s sc a =
    (ws : List Word) (r : Run) → Fits S SC r.store → HasStandard r.store
    → Along no_calls RunFits (with_params s a.params) (in_action sc a) a.body (in_store r (bound (action_under sc a).params ws r.store))

abbrev pub LocalRuns : (S : Scope) (SC : meaning.Scope) → Scope → meaning.Scope → Local → Type 0
LocalRuns S SC s sc (local_action p a) = ActionRuns S SC s sc a
LocalRuns S SC s sc (local_table p t) = Unit {0}
LocalRuns S SC s sc (local_register p r) = Unit {0}
LocalRuns S SC s sc (local_const p t x e) = Unit {0}
LocalRuns S SC s sc (local_var p t x e) = Unit {0}

abbrev pub LocalsRun : (S : Scope) (SC : meaning.Scope) → Scope → meaning.Scope → List Local → Type 0
LocalsRun S SC s sc [] = Unit {0}
LocalsRun S SC s sc (l ∷ ls) = LocalRuns S SC s sc l × LocalsRun S SC (after_local s l) (behind_local sc l) ls

-- ingress or egress, in front of which these scopes stand, on tables that hold anything. Where the store fits the
-- parameters, the control's variables are set, and then the store fits, at each statement that the run comes to, what is in
-- sight there, and the control too; and where it fits the control, each action's run finds a store that fits at each of the
-- action's statements
pub record ControlRuns (p : Parts) (s : Scope) (sc : meaning.Scope) (c : Control) : Type 0 where
  pub body :
      (held : Tables) (r : Run) → Fits (with_ways s c.params) (under.in_control 0 1 2 sc c) r.store → HasStandard r.store
      → Along (calls_in p.actions p.tables held) RunFits (in_control s c) (behind_locals (under.in_control 0 1 2 sc c) c.locals) c.apply
      (meaning_of (calls_in p.actions p.tables held) (settings_under (under.in_control 0 1 2 sc c) c.locals) r).0
  pub control :
      (held : Tables) (r : Run) → Fits (with_ways s c.params) (under.in_control 0 1 2 sc c) r.store → HasStandard r.store
      → Along (calls_in p.actions p.tables held) (GoesOnToFit (in_control s c) (behind_locals (under.in_control 0 1 2 sc c) c.locals)) (in_control s c) (behind_locals (under.in_control 0 1 2 sc c) c.locals) c.apply
      (meaning_of (calls_in p.actions p.tables held) (settings_under (under.in_control 0 1 2 sc c) c.locals) r).0
  pub actions : LocalsRun (in_control s c) (behind_locals (under.in_control 0 1 2 sc c) c.locals) (with_ways s c.params) (under.in_control 0 1 2 sc c) c.locals
  -- behind the control the store fits the parameters again
  pub behind :
      (held : Tables) (r : Run) → Fits (with_ways s c.params) (under.in_control 0 1 2 sc c) r.store → HasStandard r.store
      → Fits (with_ways s c.params) (under.in_control 0 1 2 sc c) (meaning_of (calls_in p.actions p.tables held) (whole (body_of 0 1 2 sc (Some c))) r).0.store

abbrev pub TopsRun : Parts → (main : List (List ℕ)) → Scope → meaning.Scope → List Top → Type 0
TopsRun p main s sc [] = Unit {0}
TopsRun p main s sc (constant q t x e ∷ ts) = TopsRun p main (after_top s (constant q t x e)) (behind_top sc (constant q t x e)) ts
TopsRun p main s sc (typedef q t x ∷ ts) = TopsRun p main (after_top s (typedef q t x)) (behind_top sc (typedef q t x)) ts
TopsRun p main s sc (header_type q x fs ∷ ts) = TopsRun p main (after_top s (header_type q x fs)) sc ts
TopsRun p main s sc (struct_type q x fs ∷ ts) = TopsRun p main (after_top s (struct_type q x fs)) sc ts
TopsRun p main s sc (register q r ∷ ts) = TopsRun p main (after_top s (register q r)) sc ts
TopsRun p main s sc (parser q d ∷ ts) = TopsRun p main (after_top s (parser q d)) sc ts
TopsRun p main s sc (control q c ∷ ts) = (part_in main c.name ≡ place.Apply → ControlRuns p s sc c) × TopsRun p main (after_top s (control q c)) sc ts

-- so it is of ingress and egress of each well-typed program
abbrev pub ControlsRun : Type 0
ControlsRun = (p : Program) → IsWellTyped p → HavePlainNames p.tops → HavePlainValues p.tops → TopsRun (parts_of p) p.main core no_scope p.tops
