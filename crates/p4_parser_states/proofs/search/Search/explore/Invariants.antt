use Rattle.p4_parser_states.specs.Graphs.{graph_of}
use Rattle.p4_parser_states.specs.Search.{IsSearch, Keeps, unseen}
use Rattle.p4_parser_states.proofs.search.Search.explore.Given as goal

abbrev pub invariant-loop-state : goal.invariant-loop-state
invariant-loop-state l = record {
  search : IsSearch (graph_of l.follows) l.self;
  keeps : Keeps l.initial.self l.self;
}

abbrev pub decreases-loop-state : goal.decreases-loop-state
decreases-loop-state l = unseen l.self.marks.items
