use Rattle.std.proofs.Common.{◌≡◌, ◌≤◌, List, map, length, ◌∙◌, ap, arith}
use Rattle.p4_parser_states.specs.Graphs.{graph_of}
use Rattle.p4_parser_states.specs.Search.{told}
use Rattle.p4_parser_states.specs.declared.search.Mark.{Mark}
use Rattle.p4_parser_states.proofs.Opening.{length_graph}
use Rattle.p4_parser_states.proofs.Closing.{answers_tell}
use Rattle.p4_parser_states.proofs.search.on_cycles.Goals as goal

pub returns-clause-each : goal.returns-clause-each
returns-clause-each c =
    let g = graph_of c.args.follows.now in
    let size : length g ≡ length c.args.follows.now = length_graph c.args.follows.now in
    let past : length c.args.follows.now ≤ c.loop-root.root = omega (arith, c.loop-root-test.false) in
    λ x i. answers_tell g c.loop-root.search c.in_ok-answers.answers.items c.loop-root.invariant.search
    (λ y j. c.loop-root.invariant.done y (omega (arith, j, size, past)))
    (c.in_ok-answers.ensures ∙ ap (λ (ms : List Mark). map told ms) c.deref.ensures.value) x (omega (arith, i, size))
