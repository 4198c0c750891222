use Rattle.std.proofs.Common.{◌≡◌, length, map, take}
use Rattle.p4_tree.specs.View.{state_of}
use Rattle.p4_parser_states.specs.Graphs.{graph_of}
use Rattle.p4_parser_states.specs.Numbers.{number_in, HasSteps}
use Rattle.p4_parser_states.proofs.states.graph.Given as goal

abbrev pub invariant-loop-state : goal.invariant-loop-state
invariant-loop-state l = record {
  steps : HasSteps (number_in l.names.keys) (map state_of (take l.state-index l.states)) (graph_of l.follows.items);
  len : length l.follows.items ≡ length l.names.keys;
}
