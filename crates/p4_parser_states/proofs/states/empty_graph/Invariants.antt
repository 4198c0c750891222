use Rattle.std.proofs.Common.{◌≡◌, ℕ, length}
use Rattle.p4_parser_states.specs.Graphs.{Follows, graph_of}
use Rattle.p4_parser_states.proofs.states.empty_graph.Given as goal

abbrev pub invariant-loop-i : goal.invariant-loop-i
invariant-loop-i l = record {
  none : (i j : ℕ) → Follows (graph_of l.follows.items) i j → ⊥;
  len : length l.follows.items ≡ l._i;
}
