-- Worked rows: which states of a parser reach themselves.
use Rattle.std.proofs.Common.{◌≡◌, ℕ, List, [], ◌∷◌, Bool, true, false, map, refl, codes}
use Rattle.p4_tree.specs.Tree.{any, Case, Transition, nowhere, to, select, ParserState}
use Rattle.p4_parser_states.specs.Cycles.{is_on_cycle}

abbrev state : List ℕ → Transition → ParserState
state x next = record { at = 0; name = x; body = []; next = next }

abbrev case : List ℕ → Case
case x = record { keys = any 0 ∷ []; next = x }

abbrev on_cycles : List ParserState → List Bool
on_cycles sts = map (is_on_cycle sts) sts

-- start, accept: a name that is no state's leads nowhere
ends : on_cycles (state (codes "start") (to 0 (codes "accept")) ∷ []) ≡ false ∷ []
ends = refl

-- start leads to itself
onto_itself : on_cycles (state (codes "start") (to 0 (codes "start")) ∷ []) ≡ true ∷ []
onto_itself = refl

-- start leads to a and b, and both to c
reached_twice : on_cycles (state (codes "start") (select 0 [] (case (codes "a") ∷ case (codes "b") ∷ [])) ∷ state (codes "a") (to 0 (codes "c"))
    ∷ state (codes "b") (to 0 (codes "c")) ∷ state (codes "c") (nowhere 0) ∷ []) ≡ false ∷ false ∷ false ∷ false ∷ []
reached_twice = refl

-- start leads to a, a to b, b to c and c to a
three_round : on_cycles (state (codes "start") (to 0 (codes "a")) ∷ state (codes "a") (to 0 (codes "b"))
    ∷ state (codes "b") (to 0 (codes "c")) ∷ state (codes "c") (to 0 (codes "a")) ∷ []) ≡ false ∷ true ∷ true ∷ true ∷ []
three_round = refl

-- a leads to itself, then to b, which leads on to c: what lies behind a cycle is on none
behind_a_cycle : on_cycles (state (codes "a") (select 0 [] (case (codes "a") ∷ case (codes "b") ∷ [])) ∷ state (codes "b") (to 0 (codes "c"))
    ∷ state (codes "c") (nowhere 0) ∷ []) ≡ true ∷ false ∷ false ∷ []
behind_a_cycle = refl

-- two states are named a, and the second leads to b, which leads to a
named_twice : on_cycles (state (codes "a") (nowhere 0) ∷ state (codes "a") (to 0 (codes "b")) ∷ state (codes "b") (to 0 (codes "a")) ∷ []) ≡ true ∷ true ∷ true ∷ []
named_twice = refl
