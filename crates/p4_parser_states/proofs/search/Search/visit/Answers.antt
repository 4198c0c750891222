use Rattle.std.proofs.Common.{◌<◌, length, refl, sym, ◌∙◌, arith}
use Rattle.p4_parser_states.specs.Graphs.{graph_of}
use Rattle.p4_parser_states.specs.Search.{mark_in}
use Rattle.p4_parser_states.proofs.Opening.{length_graph}
use Rattle.p4_parser_states.proofs.Closing.{mark_read, seen_done}
use Rattle.p4_parser_states.proofs.search.Search.visit.Goals as goal

pub returns-in_ok-explore-in-New-clause-done : goal.returns-in_ok-explore-in-New-clause-done
returns-in_ok-explore-in-New-clause-done c =
    let t = c.explore.new.self in
    seen_done (graph_of c.args.follows.now) t c.args.root (mark_in t c.args.root) c.in_ok-explore-in-New.ensures.search c.in_ok-explore-in-New.ensures.empty refl c.in_ok-explore-in-New.ensures.seen

pub returns-in_default-clause-done : goal.returns-in_default-clause-done
returns-in_default-clause-done c =
    let s = c.args.self.now in
    let k : c.args.root < length s.marks.items = omega (arith, c.requires.within, length_graph c.args.follows.now, c.requires.search.marked) in
    seen_done (graph_of c.args.follows.now) s c.args.root (mark_in s c.args.root) c.requires.search c.requires.empty refl
    (λ e. c.in_default.not-New (sym (mark_read s c.args.root c.index.result.now k c.index.ensures) ∙ e))
