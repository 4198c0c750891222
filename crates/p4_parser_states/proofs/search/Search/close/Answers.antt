use Rattle.std.proofs.Common.{ℕ, ◌-◌, List, length, drop, take, ◌∙◌, ap}
use Rattle.p4_parser_states.specs.Graphs.{graph_of}
use Rattle.p4_parser_states.proofs.Passing.{whole}
use Rattle.p4_parser_states.proofs.Closing.{component_closed, all_behind}
use Rattle.p4_parser_states.proofs.search.Search.close.Goals as goal

pub returns : goal.returns
returns c =
    let s = c.args.self.now in
    let d = c.deref.result.now in
    component_closed (graph_of c.args.follows.now) s c.finish.new.marks c.truncate.new.self c.pop.new.self c.args.start c.has_cycle-cyclic.result (take (length d - c.args.start) (drop c.args.start d))
    c.requires.search c.requires.last c.requires.none c.has_cycle-cyclic.ensures
    (all_behind d c.args.start ∙ ap (λ (xs : List ℕ). drop c.args.start xs) c.deref.ensures.value)
    c.finish.ensures.done c.finish.ensures.others c.finish.ensures.len c.truncate.ensures.items
    (whole s.starts c.pop.new.self.items c.pop.ensures.rest)
