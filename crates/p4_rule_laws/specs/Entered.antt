-- A parser with new states in front of its own, whose names are told apart by a renaming: what was its `start` may have
-- another name, since a new state takes its place. Read `OldPrograms` and `Cycles` of `p4_parser_states` before it.
use Rattle.std.specs.Prelude.{◌≡◌, ◌⊎◌, ℕ, List, [], ◌∷◌, ◌++◌, Bool, true, false, if◌then◌else◌, codes}
use Rattle.lex_text.specs.Names.{same_text}
use Rattle.rule_tests.specs.Tests.{IsFine}
use Rattle.p4_tree.specs.Tree.{stmts_from, Case, Transition, nowhere, to, select, ParserState}
use Rattle.p4_parser_states.specs.Cycles.{is_among, state_names, is_on_cycle}
use Rattle.p4_scopes.specs.Scopes.{Stands, state, Scope, is_missing}
use Rattle.p4_statement_rules.specs.Statements.{block_tests}
use Rattle.p4_statement_rules.specs.declared.rule.Part.TheVariants as place
use Rattle.p4_declaration_rules.specs.Parsers.{is_state_name, transition_tests, with_states, states_names}
use Rattle.p4_rule_laws.specs.Old.{Names}
use Rattle.p4_rule_laws.specs.OldPrograms.{OldStates}
use Rattle.p4_rule_laws.specs.Kept.{Keeps}

-- ---- states with other names

abbrev pub renamed_cases : (List ℕ → List ℕ) → List Case → List Case
renamed_cases r [] = []
renamed_cases r (c ∷ cs) = (record c { next = r c.next }) ∷ renamed_cases r cs

abbrev pub renamed_transition : (List ℕ → List ℕ) → Transition → Transition
renamed_transition r (nowhere p) = nowhere p
renamed_transition r (to p x) = to p (r x)
renamed_transition r (select p es cs) = select p es (renamed_cases r cs)

abbrev pub renamed_state : (List ℕ → List ℕ) → ParserState → ParserState
renamed_state r st = record st { name = r st.name; next = renamed_transition r st.next }

abbrev pub renamed_states : (List ℕ → List ℕ) → List ParserState → List ParserState
renamed_states r [] = []
renamed_states r (st ∷ sts) = renamed_state r st ∷ renamed_states r sts

-- new states, and then the given ones with other names
abbrev pub entered : (List ℕ → List ℕ) → (added sts : List ParserState) → List ParserState
entered r added sts = added ++ renamed_states r sts

-- ---- what the new states have to be

-- the given states have the name, a new state has it in their place, and what it becomes stands for nothing
pub record IsMoved (r : List ℕ → List ℕ) (t : Scope) (added sts : List ParserState) (x : List ℕ) : Type 0 where
  pub given : is_among (state_names sts) x ≡ true
  pub taken : is_among (state_names added) x ≡ true
  pub free : is_missing (t (r x ∷ [])) ≡ true

-- none reaches itself
abbrev pub NoCycles : (all sts : List ParserState) → Type 0
NoCycles all [] = Unit {0}
NoCycles all (st ∷ sts) = (is_on_cycle all st ≡ false) × NoCycles all sts

-- the statements of each are fine, and how it goes on among the states of a parser
abbrev pub FineFlows : (all : List ParserState) → Scope → List ParserState → Type 0
FineFlows all s [] = Unit {0}
FineFlows all s (st ∷ sts) = IsFine (block_tests place.State s (stmts_from st.body)) × IsFine (transition_tests (is_state_name (state_names all)) s st.next) × FineFlows all s sts

-- t: the scope before the states of the parser that is made
pub record Enters (old : Names) (r : List ℕ → List ℕ) (t : Scope) (added sts : List ParserState) : Type 0 where
  pub given : OldStates old sts
  pub start : old (codes "start") ≡ true
  -- the renaming tells old names apart, makes none that a new state has, and leaves each or moves it
  pub one : (x y : List ℕ) → old x ≡ true → old y ≡ true → same_text (r x) (r y) ≡ same_text x y
  pub apart : (x : List ℕ) → old x ≡ true → is_among (state_names added) (r x) ≡ false
  pub moved : (x : List ℕ) → old x ≡ true → (r x ≡ x) ⊎ IsMoved r t added sts x
  -- the new states have new names, reach themselves by no way among them, and are fine where they stand
  pub names : IsFine (states_names t added)
  pub cycles : NoCycles added added
  pub flows : Keeps t (with_states t (entered r added sts)) → FineFlows (entered r added sts) (with_states t (entered r added sts)) added

-- ---- one name alone is moved

abbrev pub renamed_to : (from onto : List ℕ) → List ℕ → List ℕ
renamed_to x y z = if same_text z x then y else z

-- new states in front of those of a parser, the first of which has the name of a given one, which has a new name
pub record Begins (old : Names) (from onto : List ℕ) (t : Scope) (added sts : List ParserState) : Type 0 where
  pub given : OldStates old sts
  pub start : old (codes "start") ≡ true
  pub is_given : is_among (state_names sts) from ≡ true
  pub is_taken : is_among (state_names added) from ≡ true
  -- its new name is new and stands for nothing, and the new states have no other old names
  pub is_new : old onto ≡ false
  pub is_free : is_missing (t (onto ∷ [])) ≡ true
  pub is_apart : is_among (state_names added) onto ≡ false
  pub others : (x : List ℕ) → old x ≡ true → same_text from x ≡ false → is_among (state_names added) x ≡ false
  pub names : IsFine (states_names t added)
  pub cycles : NoCycles added added
  pub flows : Keeps t (with_states t (entered (renamed_to from onto) added sts)) → FineFlows (entered (renamed_to from onto) added sts) (with_states t (entered (renamed_to from onto) added sts)) added

-- ---- which states there are outside parsers

abbrev pub stands_state : Stands → Bool
stands_state state = true
stands_state _ = false

-- none
pub record HasNoStates (s : Scope) : Type 0 where
  pub none : (x : List ℕ) → stands_state (s (x ∷ [])) ≡ false
