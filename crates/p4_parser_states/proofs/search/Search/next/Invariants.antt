use Rattle.p4_parser_states.specs.Graphs.{graph_of}
use Rattle.p4_parser_states.specs.Search.{IsSearch, Keeps, work}
use Rattle.p4_parser_states.proofs.search.Search.next.Given as goal

abbrev pub invariant-loop-start : goal.invariant-loop-start
invariant-loop-start l = record {
  search : IsSearch (graph_of l.follows) l.self;
  keeps : Keeps l.initial.self l.self;
}

abbrev pub decreases-loop-start : goal.decreases-loop-start
decreases-loop-start l = work l.self
