-- A whole control does the same, where it does so at each statement.
use Rattle.std.proofs.Common.{◌≡◌, ℕ, List, [], ◌∷◌, Some, refl, ap, ◌∙◌, sym}
use Rattle.rule_tests.specs.Tests.{IsFine}
use Rattle.p4_tree.specs.Tree.{Stmts, and_then, Local, local_action, local_table, local_register, local_const, local_var, var, Control}
use Rattle.p4_meaning.specs.Statements.{Run, Ended, Calls, meaning_of_stmt, meaning_of}
use Rattle.p4_meaning.specs.Scope as meaning
use Rattle.p4_meaning.specs.Under as under
use Rattle.p4_meaning.specs.Under.{stmt_under, stmts_under, behind_local, behind_locals, settings_under}
use Rattle.p4_meaning.specs.Parts.{Parts, whole, body_of}
use Rattle.p4_scopes.specs.Scopes.{Scope}
use Rattle.p4_statement_rules.specs.declared.rule.Part.{Part}
use Rattle.p4_declaration_rules.specs.Parsers.{with_ways}
use Rattle.p4_declaration_rules.specs.Controls.{in_control, control_tests}
use Rattle.p4_typing_laws.specs.Along.{Along}
use Rattle.passage_stores.specs.SeenStores.{ControlSees}
use Rattle.rewriting_laws.specs.Standing.{MayStandFor}
use Rattle.rewritten_programs.specs.Rewritten.{ControlRewritten}
use Rattle.rewriting_meaning.specs.Sights.{IsSeen}
use Rattle.rewriting_meaning.proofs.Called.{statements_same, first_values_same}
use Rattle.rewriting_passages.proofs.Scopes.{locals_behind, begin_same}

-- a control's variables are set, and what follows goes on
settings_then : (calls : Calls) (ls : List Local) (sc : meaning.Scope) (b : Stmts) (r : Run) → meaning_of calls (and_then (settings_under sc ls) b) r ≡ meaning_of calls b (meaning_of calls (settings_under sc ls) r).0
settings_then calls [] sc b r = refl
settings_then calls (local_action p a ∷ ls) sc b r = settings_then calls ls sc b r
settings_then calls (local_table p t ∷ ls) sc b r = settings_then calls ls sc b r
settings_then calls (local_register p g ∷ ls) sc b r = settings_then calls ls sc b r
settings_then calls (local_const p t x e ∷ ls) sc b r = settings_then calls ls (behind_local sc (local_const p t x e)) b r
settings_then calls (local_var p t x e ∷ ls) sc b r = settings_then calls ls sc b (meaning_of_stmt calls (stmt_under sc (var p t x e)) r).0

module _ (pt : Parts) (calls others : Calls) (h m n : ℕ) (s : Scope) (sc : meaning.Scope) (c : Control) (run : Run) where
  abbrev pub Begin : meaning.Scope
  Begin = under.in_control h m n sc c

  abbrev pub Inside : meaning.Scope
  Inside = behind_locals Begin c.locals

  -- what is seen of a control: where its variables are set, and at each statement
  pub record IsSeenWhole : Type 0 where
    pub sees : ControlSees pt h m n s sc c calls run
    pub body : Along calls (IsSeen pt calls others) (in_control s c) Inside c.apply (meaning_of calls (settings_under Begin c.locals) run).0

  pub whole_same : (d : Control) → ControlRewritten MayStandFor c d → (g : Part) → IsFine (control_tests g s c) → IsSeenWhole → meaning_of others (whole (body_of h m n sc (Some d))) run ≡ meaning_of calls (whole (body_of h m n sc (Some c))) run
  whole_same d r g f seen =
      (let first = first_values_same pt calls others g (with_ways s c.params) Begin c.locals d.locals r.locals f.1.1.0 run seen.sees.settings in
      ap (λ (sd : meaning.Scope). meaning_of others (and_then (settings_under sd d.locals) (stmts_under (behind_locals sd d.locals) d.apply)) run) (begin_same h m n sc c d r)
      ∙ (ap (λ (sd : meaning.Scope). meaning_of others (and_then (settings_under Begin d.locals) (stmts_under sd d.apply)) run) (locals_behind c.locals d.locals r.locals Begin)
      ∙ (settings_then others d.locals Begin (stmts_under Inside d.apply) run
      ∙ (ap (λ (e : Ended). meaning_of others (stmts_under Inside d.apply) e.0) first
      ∙ (statements_same pt calls others g (in_control s c) Inside c.apply d.apply r.apply f.1.1.1.0 (meaning_of calls (settings_under Begin c.locals) run).0 seen.body
      ∙ sym (settings_then calls c.locals Begin (stmts_under Inside c.apply) run))))))
