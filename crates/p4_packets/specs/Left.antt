-- The states of a parser that were not passed yet.
use Rattle.std.specs.Prelude.{List, map, Option, Some, None}
use Rattle.std.proofs.Common.{Bor}
use Rattle.p4_tree.specs.Tree.{ParserState}
use Rattle.p4_tree.specs.View.{state_of}
use Rattle.p4_tree.specs.declared.program.ParserState as code_state

-- the states that are lent
abbrev pub states_in : List (Bor code_state.ParserState) → List ParserState
states_in sts = map (λ s. state_of s.now) sts

-- a state that was found, and the states without it
abbrev pub found_in : Option (Bor code_state.ParserState) → List (Bor code_state.ParserState) → Option (ParserState × List ParserState)
found_in None rest = None
found_in (Some st) rest = Some (state_of st.now, states_in rest)
