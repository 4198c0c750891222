-- The tests of one list behind another are those of both, and the most digests add up.
use Rattle.std.proofs.Common.{◌≡◌, ℕ, List, [], ◌∷◌, ◌++◌, refl, sym, ap, ◌∙◌, arith}
use Rattle.rule_tests.specs.Tests.{IsFine}
use Rattle.p4_tree.specs.Tree.{Stmts, done, next, and_then, ParserState, Local, Top}
use Rattle.p4_scopes.specs.Scopes.{Scope, add_up}
use Rattle.p4_statement_rules.specs.Statements.{block_tests, after, after_all}
use Rattle.p4_statement_rules.specs.declared.rule.Part.{Part}
use Rattle.p4_declaration_rules.specs.Digests.{most_of_stmt, most_of}
use Rattle.p4_declaration_rules.specs.Parsers.{with_state, with_states, states_names, states_tests}
use Rattle.p4_declaration_rules.specs.Controls.{after_local, locals_tests, after_locals, after_top, tops_tests, after_tops}

-- ---- statements

pub after_append : (s : Scope) (a b : Stmts) → after_all s (and_then a b) ≡ after_all (after_all s a) b
after_append s done b = refl
after_append s (next c a) b = after_append (after s c) a b

pub block_joined : (h : Part) (s : Scope) (a b : Stmts) → IsFine (block_tests h s a) → IsFine (block_tests h (after_all s a) b) → IsFine (block_tests h s (and_then a b))
block_joined h s done b f g = g
block_joined h s (next c a) b f g = (f.0, block_joined h (after s c) a b f.1 g)

pub block_parts : (h : Part) (s : Scope) (a b : Stmts) → IsFine (block_tests h s (and_then a b)) → IsFine (block_tests h s a) × IsFine (block_tests h (after_all s a) b)
block_parts h s done b f = (tt, f)
block_parts h s (next c a) b f = let r = block_parts h (after s c) a b f.1 in ((f.0, r.0), r.1)

adds_once : (a b c : ℕ) → add_up (add_up a b) c ≡ add_up a (add_up b c)
adds_once a b c = omega arith

pub adds_none : (a b : ℕ) → add_up 0 (add_up a b) ≡ add_up a b
adds_none a b = omega arith

-- what statements give is within the greatest sum
pub most_within : (s : Scope) (b : Stmts) → add_up 0 (most_of s b) ≡ most_of s b
most_within s done = refl
most_within s (next c b) = adds_none (most_of_stmt s c) (most_of s b)

pub most_append : (s : Scope) (a b : Stmts) → most_of s (and_then a b) ≡ add_up (most_of s a) (most_of s b)
most_append s done b = sym (most_within s b)
most_append s (next c a) b = ap (add_up (most_of_stmt s c)) (most_append s a b) ∙ sym (adds_once (most_of_stmt s c) (most_of s a) (most_of s b))

-- ---- declarations of controls

pub locals_append : (s : Scope) (a b : List Local) → after_locals s (a ++ b) ≡ after_locals (after_locals s a) b
locals_append s [] b = refl
locals_append s (l ∷ a) b = locals_append (after_local s l) a b

pub locals_joined : (h : Part) (s : Scope) (a b : List Local) → IsFine (locals_tests h s a) → IsFine (locals_tests h (after_locals s a) b) → IsFine (locals_tests h s (a ++ b))
locals_joined h s [] b f g = g
locals_joined h s (l ∷ a) b f g = (f.0, locals_joined h (after_local s l) a b f.1 g)

pub locals_parts : (h : Part) (s : Scope) (a b : List Local) → IsFine (locals_tests h s (a ++ b)) → IsFine (locals_tests h s a) × IsFine (locals_tests h (after_locals s a) b)
locals_parts h s [] b f = (tt, f)
locals_parts h s (l ∷ a) b f = let r = locals_parts h (after_local s l) a b f.1 in ((f.0, r.0), r.1)

-- ---- states

pub with_states_append : (s : Scope) (a b : List ParserState) → with_states s (a ++ b) ≡ with_states (with_states s a) b
with_states_append s [] b = refl
with_states_append s (st ∷ a) b = with_states_append (with_state s st.name) a b

pub names_joined : (s : Scope) (a b : List ParserState) → IsFine (states_names s a) → IsFine (states_names (with_states s a) b) → IsFine (states_names s (a ++ b))
names_joined s [] b f g = g
names_joined s (st ∷ a) b f g = (f.0, names_joined (with_state s st.name) a b f.1 g)

pub names_parts : (s : Scope) (a b : List ParserState) → IsFine (states_names s (a ++ b)) → IsFine (states_names s a) × IsFine (states_names (with_states s a) b)
names_parts s [] b f = (tt, f)
names_parts s (st ∷ a) b f = let r = names_parts (with_state s st.name) a b f.1 in ((f.0, r.0), r.1)

pub states_joined : (all : List ParserState) (s : Scope) (a b : List ParserState) → IsFine (states_tests all s a) → IsFine (states_tests all s b) → IsFine (states_tests all s (a ++ b))
states_joined all s [] b f g = g
states_joined all s (st ∷ a) b f g = (f.0, states_joined all s a b f.1 g)

pub states_parts : (all : List ParserState) (s : Scope) (a b : List ParserState) → IsFine (states_tests all s (a ++ b)) → IsFine (states_tests all s a) × IsFine (states_tests all s b)
states_parts all s [] b f = (tt, f)
states_parts all s (st ∷ a) b f = let r = states_parts all s a b f.1 in ((f.0, r.0), r.1)

-- ---- declarations at top level

pub tops_append : (s : Scope) (a b : List Top) → after_tops s (a ++ b) ≡ after_tops (after_tops s a) b
tops_append s [] b = refl
tops_append s (y ∷ a) b = tops_append (after_top s y) a b

pub tops_joined : (main : List (List ℕ)) (s : Scope) (a b : List Top) → IsFine (tops_tests main s a) → IsFine (tops_tests main (after_tops s a) b) → IsFine (tops_tests main s (a ++ b))
tops_joined main s [] b f g = g
tops_joined main s (y ∷ a) b f g = (f.0, tops_joined main (after_top s y) a b f.1 g)

pub tops_parts : (main : List (List ℕ)) (s : Scope) (a b : List Top) → IsFine (tops_tests main s (a ++ b)) → IsFine (tops_tests main s a) × IsFine (tops_tests main (after_tops s a) b)
tops_parts main s [] b f = (tt, f)
tops_parts main s (y ∷ a) b f = let r = tops_parts main (after_top s y) a b f.1 in ((f.0, r.0), r.1)
