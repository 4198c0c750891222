use Rattle.std.proofs.Common.{map, take}
use Rattle.p4_parser_states.proofs.Numbered.{HasNames}
use Rattle.p4_parser_states.proofs.states.names_of.Given as goal

abbrev pub invariant-loop-state : goal.invariant-loop-state
invariant-loop-state l = HasNames (map (λ st. st.name) (take l.state-index l.states)) l.names.keys
