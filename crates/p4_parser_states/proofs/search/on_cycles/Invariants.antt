use Rattle.std.proofs.Common.{◌≡◌, ℕ, ◌<◌, []}
use Rattle.p4_parser_states.specs.Graphs.{graph_of}
use Rattle.p4_parser_states.specs.Search.{IsSearch, IsDone, mark_in}
use Rattle.p4_parser_states.proofs.search.on_cycles.Given as goal

abbrev pub invariant-loop-root : goal.invariant-loop-root
invariant-loop-root l = record {
  search : IsSearch (graph_of l.follows) l.search;
  empty : l.search.stack.items ≡ [];
  done : (x : ℕ) → x < l.root → IsDone (mark_in l.search x);
}
