-- What is seen of a store at a place: words of the declared widths. And where a run comes to: the variables of a control,
-- and the states of a parser. Read `Along` and `Runs` of `p4_typing_laws` before it.
use Rattle.std.specs.Prelude.{◌≡◌, ℕ, zero, suc, ◌≤◌, List, [], ◌∷◌, length, Bool, true, false, ◌||◌, codes, Some}
use Rattle.bit_values.specs.Bits.{Word}
use Rattle.lex_text.specs.Names.{same_text}
use Rattle.rule_tests.specs.Tests.{IsFine}
use Rattle.p4_tree.specs.Tree.{Expr, Stmt, Local, local_action, local_table, local_register, local_const, local_var, var, Control, ParserState}
use Rattle.p4_meaning.specs.Store.{Store}
use Rattle.p4_meaning.specs.Statements.{Run, Calls, in_store, no_calls, meaning_of_stmt, meaning_of}
use Rattle.p4_meaning.specs.Scope as meaning
use Rattle.p4_meaning.specs.Scope.{full_name, seen}
use Rattle.p4_meaning.specs.Under as under
use Rattle.p4_meaning.specs.Under.{stmt_under, behind_local, behind_locals, settings_under}
use Rattle.p4_meaning.specs.Parsing.{Header, Reading, goes_on, stmt_parsed, body_parsed, leads, turned, found_state, ends_parser}
use Rattle.p4_meaning.specs.Actions.{in_action, action_under, bound}
use Rattle.p4_meaning.specs.Parts.{Parts}
use Rattle.p4_meaning.specs.Laws.{AreWords}
use Rattle.p4_scopes.specs.Scopes.{function, is_missing, Scope, core_name}
use Rattle.p4_scopes.specs.declared.kind.Kind.{Kind}
use Rattle.p4_scopes.specs.declared.thing.Function.{Function}
use Rattle.p4_statement_rules.specs.Expressions.{expr_tests}
use Rattle.p4_declaration_rules.specs.Declarations.{with_params}
use Rattle.p4_declaration_rules.specs.Parsers.{with_ways}
use Rattle.p4_declaration_rules.specs.Controls.{after_local, in_control}
use Rattle.p4_typing_laws.specs.Soundness.{kind_width, IsSound}
use Rattle.p4_typing_laws.specs.Tied.{IsTied}
use Rattle.p4_typing_laws.specs.Widths.{Shows}
use Rattle.p4_typing_laws.specs.Stores.{Fits, RunsAtWidth}
use Rattle.p4_typing_laws.specs.Along.{Along}
use Rattle.passage_stores.specs.FitStores.{IsFit}

-- ---- what is seen

-- a name of the architecture's own that is called alone
abbrev pub is_function : List ℕ → Bool
is_function x = same_text x (codes "mark_to_drop") || same_text x (codes "digest") || same_text x (codes "verify_checksum") || same_text x (codes "update_checksum")

-- the names of the architecture's own stand for what they do, and no control owns one of them
pub record KnowsCalls (s : Scope) (sc : meaning.Scope) : Type 0 where
  pub core : (x : List ℕ) → is_missing (core_name x) ≡ false → s (x ∷ []) ≡ core_name x
  pub functions : (x : List ℕ) (f : Function) → s (x ∷ []) ≡ function f → core_name x ≡ function f
  pub full : (x : List ℕ) → is_function x ≡ true → full_name sc x ≡ x
  -- and what is no such name is none in the running program
  pub plain : (x : List ℕ) → is_function x ≡ false → is_function (full_name sc x) ≡ false

-- both scopes are tied, and what is in sight by the rules are words of the declared widths in what is seen of the store.
-- That no header has the empty path stands in `fits`
pub record Sees (p : Parts) (s : Scope) (sc : meaning.Scope) (st : Store) : Type 0 where
  pub tied : IsTied p s sc
  pub sound : IsSound s
  pub words : AreWords sc
  pub fits : Fits s sc st
  pub shows : Shows s (seen sc st)
  pub calls : KnowsCalls s sc

-- so each expression that breaks no rule where a width of at most 128 bits is wanted, or none, has a word of its static
-- width, in range
abbrev pub SeenHasWidth : Type 0
SeenHasWidth = (p : Parts) (s : Scope) (sc : meaning.Scope) (st : Store) → Sees p s sc st → (want : Kind) → kind_width want ≤ 128 → (e : Expr) → IsFine (expr_tests s want e) → RunsAtWidth s sc st want e

-- ---- where the run of a control comes to

-- the store of a run fits what is in sight at the beginning of a control's body, S and SC, and it fits the program
pub record FitsControl (p : Parts) (S : Scope) (SC : meaning.Scope) (r : Run) : Type 0 where
  pub control : Fits S SC r.store
  pub program : IsFit p r.store

-- at a statement of the body: what is in sight there is seen, and the store fits the control
abbrev pub SeesAt : Parts → (S : Scope) (SC : meaning.Scope) → Scope → meaning.Scope → Stmt → Run → Type 0
SeesAt p S SC s sc c r = Sees p s sc r.store × FitsControl p S SC r

-- P holds of the run in front of each variable of a control that is set
module _ (calls : Calls) (P : Scope → meaning.Scope → Run → Type 0) where
  abbrev pub AlongSettings : Scope → meaning.Scope → List Local → Run → Type 0
  AlongSettings s sc [] r = Unit {0}
  AlongSettings s sc (local_var q t x e ∷ ls) r = P s sc r × AlongSettings (after_local s (local_var q t x e)) sc ls (meaning_of_stmt calls (stmt_under sc (var q t x e)) r).0
  AlongSettings s sc (l ∷ ls) r = AlongSettings (after_local s l) (behind_local sc l) ls r

-- the actions of a control run so, on any words, from any run whose store fits the control; and at the keys of its tables
-- what is in sight there is seen of the store of each such run
abbrev pub LocalSees : Parts → (S : Scope) (SC : meaning.Scope) → Scope → meaning.Scope → Local → Type 0
LocalSees p S SC s sc (local_action q a) =
    (ws : List Word) (r : Run) → FitsControl p S SC r
    → Along no_calls (λ t td c u. Sees p t td u.store × IsFit p u.store) (with_params s a.params) (in_action sc a) a.body (in_store r (bound (action_under sc a).params ws r.store))
LocalSees p S SC s sc (local_table q t) = (r : Run) → FitsControl p S SC r → Sees p s sc r.store
LocalSees p S SC s sc (local_register q g) = Unit {0}
LocalSees p S SC s sc (local_const q t x e) = Unit {0}
LocalSees p S SC s sc (local_var q t x e) = Unit {0}

abbrev pub LocalsSee : Parts → (S : Scope) (SC : meaning.Scope) → Scope → meaning.Scope → List Local → Type 0
LocalsSee p S SC s sc [] = Unit {0}
LocalsSee p S SC s sc (l ∷ ls) = LocalSees p S SC s sc l × LocalsSee p S SC (after_local s l) (behind_local sc l) ls

-- a control in front of which these scopes stand, with its three parameters at these places: its variables are set, and its
-- body runs
pub record ControlSees (p : Parts) (h m n : ℕ) (s : Scope) (sc : meaning.Scope) (c : Control) (calls : Calls) (r : Run) : Type 0 where
  pub settings : AlongSettings calls (λ t td u. Sees p t td u.store × IsFit p u.store) (with_ways s c.params) (under.in_control h m n sc c) c.locals r
  pub body :
      Along calls (SeesAt p (in_control s c) (behind_locals (under.in_control h m n sc c) c.locals)) (in_control s c) (behind_locals (under.in_control h m n sc c) c.locals) c.apply
      (meaning_of calls (settings_under (under.in_control h m n sc c) c.locals) r).0
  pub locals : LocalsSee p (in_control s c) (behind_locals (under.in_control h m n sc c) c.locals) (with_ways s c.params) (under.in_control h m n sc c) c.locals

-- ---- where the run of a parser comes to

-- Q holds of each reading to which the run comes
module _ (hs : List Header) (Q : Reading → Type 0) where
  -- in front of each statement of a state
  abbrev pub AlongBody : List Stmt → Reading → Type 0
  AlongBody [] r = Unit {0}
  AlongBody (c ∷ cs) r = Q r × ((q : Reading) → stmt_parsed hs c r ≡ goes_on q → AlongBody cs q)

  -- and where the state chooses how to go on
  abbrev pub AlongState : ParserState → Reading → Type 0
  AlongState u r = AlongBody u.body r × ((q : Reading) → body_parsed hs u.body r ≡ goes_on q → Q q)

  -- so many states at most, each found among those that were not passed yet
  abbrev pub AlongTurns : ℕ → List ParserState → List ℕ → Reading → Type 0
  AlongTurns zero us x r = Unit {0}
  AlongTurns (suc n) us x r =
      ends_parser x ≡ false → (t : ParserState × List ParserState) → found_state us x ≡ Some t
      → AlongState t.0 r × ((y : List ℕ) (q : Reading) → turned (body_parsed hs t.0.body r) t.0.next ≡ leads y q → AlongTurns n t.1 y q)

  abbrev pub AlongParse : List ParserState → Reading → Type 0
  AlongParse us r = AlongTurns (suc (length us)) us (codes "start") r
