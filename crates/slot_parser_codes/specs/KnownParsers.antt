-- Which parsers have a form over slots. Read `Parses` of `slot_parsers` before it, and `Known` of `slot_terms` and of
-- `slot_statements`.
use Rattle.std.specs.Prelude.{List, [], ◌∷◌, Bool, true, ◌&&◌}
use Rattle.p4_tree.specs.Tree.{Expr, Stmt, nothing, block, var, assign, choice, return_, exit_, call, Keyset, any, only, masked, Case, Transition, nowhere, to, select, ParserState}
use Rattle.slot_terms.specs.Places.{Places}
use Rattle.slot_terms.specs.Known.{is_known}
use Rattle.slot_statements.specs.Known.{is_known_target}
use Rattle.slot_parsers.specs.Parses.{are_named}

-- each of a list passes a test
abbrev pub all_pass : {X : Type 0} → (X → Bool) → List X → Bool
all_pass test [] = true
all_pass test (x ∷ xs) = test x && all_pass test xs

-- what a statement of a state reads and writes has places
abbrev pub is_known_stmt : Places → Stmt → Bool
is_known_stmt m (assign p target e) = is_known_target m target e
is_known_stmt m (nothing p) = true
is_known_stmt m (block p ss) = true
is_known_stmt m (var p ty x e) = true
is_known_stmt m (choice p e a b) = true
is_known_stmt m (return_ p) = true
is_known_stmt m (exit_ p) = true
is_known_stmt m (call p callee args) = true

abbrev pub are_known_stmts : Places → List Stmt → Bool
are_known_stmts m = all_pass (is_known_stmt m)

abbrev pub is_known_key : Places → Keyset → Bool
is_known_key m (any p) = true
is_known_key m (only p e) = is_known m e
is_known_key m (masked p e k) = is_known m e && is_known m k

abbrev pub are_known_keys : Places → List Keyset → Bool
are_known_keys m = all_pass (is_known_key m)

abbrev pub is_known_case : Places → Case → Bool
is_known_case m c = are_known_keys m c.keys

abbrev pub are_known_cases : Places → List Case → Bool
are_known_cases m = all_pass (is_known_case m)

abbrev pub are_known : Places → List Expr → Bool
are_known m = all_pass (is_known m)

abbrev pub is_known_next : Places → Transition → Bool
is_known_next m (nowhere p) = true
is_known_next m (to p x) = true
is_known_next m (select p es cases) = are_known m es && are_known_cases m cases

abbrev pub is_known_state : Places → ParserState → Bool
is_known_state m st = are_known_stmts m st.body && is_known_next m st.next

abbrev pub are_known_states : Places → List ParserState → Bool
are_known_states m = all_pass (is_known_state m)

-- a parser has a form over slots: its states have names of their own, and its paths have places
abbrev pub is_known_parser : Places → List ParserState → Bool
is_known_parser m sts = are_named sts && are_known_states m sts
