-- What is tested of parsers: their states, which are all in sight in each of them, and how these go on. Read `Cycles` of
-- `p4_parser_states` before it and `Controls` after it.
use Rattle.std.specs.Prelude.{ℕ, List, [], ◌∷◌, Bool, true, not, ◌&&◌, ◌||◌, if◌then◌else◌, codes}
use Rattle.lex_text.specs.Names.{same_text}
use Rattle.rule_tests.specs.Tests.{Tests, fine, test, both}
use Rattle.p4_tree.specs.Tree.{Expr, num, flag, path, stmts_from, Keyset, any, only, masked, Case, Transition, nowhere, to, select, ParserState, Parser}
use Rattle.p4_tree.specs.declared.program.Way.{Way}
use Rattle.p4_tree.specs.declared.program.Way.TheVariants as way
use Rattle.p4_tree.specs.declared.program.Param.{Param}
use Rattle.p4_parser_states.specs.Cycles.{is_among, state_names, is_on_cycle}
use Rattle.p4_scopes.specs.Kinds.{as_number, as_value}
use Rattle.p4_scopes.specs.Scopes.{Stands, Scope, is_missing, value, parser_state, declare, own}
use Rattle.p4_scopes.specs.Uses.{is_constant}
use Rattle.p4_scopes.specs.declared.kind.Kind.{Kind}
use Rattle.p4_scopes.specs.declared.thing.Access.{Access}
use Rattle.p4_scopes.specs.declared.thing.Access.TheVariants.{Writable, Fixed}
use Rattle.p4_statement_rules.specs.Expressions.{expr_at, new_tests, type_tests, expr_tests, all_free}
use Rattle.p4_statement_rules.specs.Calls.{as_many}
use Rattle.p4_statement_rules.specs.Statements.{block_tests}
use Rattle.p4_statement_rules.specs.declared.rule.ProgramRule.{ProgramRule}
use Rattle.p4_statement_rules.specs.declared.rule.ProgramRule.TheVariants.{NoSuchName, KindDiffers, ParserCycle}
use Rattle.p4_statement_rules.specs.declared.rule.Part.TheVariants as part

-- ---- parameters of parsers and controls

abbrev pub way_access : Way → Access
way_access way.Plain = Writable
way_access way.Into = Fixed
way_access way.Out = Writable
way_access way.Both = Writable

-- each parameter is in sight behind it
abbrev pub with_ways : Scope → List Param → Scope
with_ways s [] = s
with_ways s (q ∷ qs) = with_ways (declare s q.name (value (way_access q.way) q.ty)) qs

abbrev pub ways_tests : Scope → List Param → Tests ProgramRule
ways_tests s [] = fine
ways_tests s (q ∷ qs) = both (both (new_tests q.at s q.name) (type_tests q.at s q.ty)) (ways_tests (declare s q.name (value (way_access q.way) q.ty)) qs)

-- ---- names of states

-- a name of a state, where a parser's own have these: each parser has `accept` and `reject` besides
abbrev pub is_state_name : (names : List (List ℕ)) → List ℕ → Bool
is_state_name names x = same_text x (codes "accept") || same_text x (codes "reject") || is_among names x

-- a state comes into sight where its name stands for nothing, so that it hides nothing
abbrev pub with_state : Scope → List ℕ → Scope
with_state s x = if is_missing (s (x ∷ [])) then declare s x parser_state else s

-- the states that each parser has
abbrev pub with_ends : Scope → Scope
with_ends s = with_state (with_state s (codes "accept")) (codes "reject")

-- ---- how a state goes on

-- a name of a state, before or behind: one for which the test holds. Another stands for something else or for nothing
abbrev pub onto_tests : (at : ℕ) → (is_name : Bool) → Stands → Tests ProgramRule
onto_tests p is st = both (test p NoSuchName (not is && is_missing st)) (test p KindDiffers (not is && not (is_missing st)))

-- what a key is: a number, a truth value or a constant
abbrev pub simple_tests : Scope → Expr → Tests ProgramRule
simple_tests s (num p n) = fine
simple_tests s (flag p b) = fine
simple_tests s (path p x) = test p KindDiffers (not (is_constant (s x)))
simple_tests s e = test (expr_at e) KindDiffers true

abbrev pub key_tests : Scope → Kind → Expr → Tests ProgramRule
key_tests s k e = both (expr_tests s k e) (simple_tests s e)

-- a key for a value of kind k: a mask is a number's
abbrev pub keyset_tests : Scope → Kind → Keyset → Tests ProgramRule
keyset_tests s k (any p) = fine
keyset_tests s k (only p e) = key_tests s k e
keyset_tests s k (masked p e m) = both (key_tests s (as_number k) e) (key_tests s (as_number k) m)

abbrev pub each_keyset : Scope → List Expr → List Keyset → Tests ProgramRule
each_keyset s [] ks = fine
each_keyset s (e ∷ es) [] = fine
each_keyset s (e ∷ es) (k ∷ ks) = both (keyset_tests s (as_value (own s e)) k) (each_keyset s es ks)

-- as many keys as values; one `default` alone fits all
abbrev pub keysets_tests : (at : ℕ) → Scope → List Expr → List Keyset → Tests ProgramRule
keysets_tests p s es (any q ∷ []) = fine
keysets_tests p s es ks = both (test p KindDiffers (not (as_many es ks))) (each_keyset s es ks)

abbrev pub cases_tests : (names : List ℕ → Bool) (at : ℕ) → Scope → List Expr → List Case → Tests ProgramRule
cases_tests k p s es [] = fine
cases_tests k p s es (c ∷ cs) = both (both (keysets_tests p s es c.keys) (onto_tests p (k c.next) (s (c.next ∷ [])))) (cases_tests k p s es cs)

-- how a state goes on, where the names of states are those that pass a test
abbrev pub transition_tests : (names : List ℕ → Bool) → Scope → Transition → Tests ProgramRule
transition_tests k s (nowhere p) = fine
transition_tests k s (to p x) = onto_tests p (k x) (s (x ∷ []))
transition_tests k s (select p es cs) = both (all_free s es) (cases_tests k p s es cs)

-- ---- states

-- a parser's own states
abbrev pub with_states : Scope → List ParserState → Scope
with_states s [] = s
with_states s (st ∷ sts) = with_states (with_state s st.name) sts

-- each has a name that stands for nothing
abbrev pub states_names : Scope → List ParserState → Tests ProgramRule
states_names s [] = fine
states_names s (st ∷ sts) = both (new_tests st.at s st.name) (states_names (with_state s st.name) sts)

-- a state of these
abbrev pub state_tests : (all : List ParserState) → Scope → ParserState → Tests ProgramRule
state_tests all s st =
    both (test st.at ParserCycle (is_on_cycle all st))
    (both (block_tests part.State s (stmts_from st.body))
    (transition_tests (is_state_name (state_names all)) s st.next))

abbrev pub states_tests : (all : List ParserState) → Scope → List ParserState → Tests ProgramRule
states_tests all s [] = fine
states_tests all s (st ∷ sts) = both (state_tests all s st) (states_tests all s sts)

-- a parser begins in its state of this name
abbrev pub start_tests : (at : ℕ) → Scope → List ParserState → Tests ProgramRule
start_tests p s sts = onto_tests p (is_state_name (state_names sts) (codes "start")) (s (codes "start" ∷ []))

-- ---- parsers

-- what is in sight before a parser's own states: its parameters are behind the names at top level
abbrev pub before_states : Scope → Parser → Scope
before_states s d = with_ends (with_ways s d.params)

-- what is in sight in a parser's states
abbrev pub in_states : Scope → Parser → Scope
in_states s d = with_states (before_states s d) d.states

abbrev pub parser_tests : Scope → Parser → Tests ProgramRule
parser_tests s d =
    both (new_tests d.at s d.name)
    (both (ways_tests s d.params)
    (both (states_names (before_states s d) d.states)
    (both (start_tests d.at (in_states s d) d.states)
    (states_tests d.states (in_states s d) d.states))))
