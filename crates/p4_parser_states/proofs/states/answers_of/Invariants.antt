use Rattle.std.proofs.Common.{◌≡◌, map, take}
use Rattle.p4_parser_states.specs.Numbers.{number_in, answer_at}
use Rattle.p4_parser_states.proofs.states.answers_of.Given as goal

abbrev pub invariant-loop-state : goal.invariant-loop-state
invariant-loop-state l = l.answers.items ≡ map (λ st. answer_at l.cyclic (number_in l.names.keys st.name)) (take l.state-index l.states)
