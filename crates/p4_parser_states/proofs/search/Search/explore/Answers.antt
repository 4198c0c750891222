use Rattle.std.proofs.Common.{◌<◌, ◌≤◌, sym, ◌∙◌, arith}
use Rattle.p4_parser_states.specs.Search.{unseen}
use Rattle.p4_parser_states.proofs.Opening.{unseen_less}
use Rattle.p4_parser_states.proofs.search.Search.explore.Goals as goal

pub loop-state-smaller : goal.loop-state-smaller
loop-state-smaller c =
    let s = c.loop-state.self in
    let t = c.next.new.self in
    let a : unseen c.enter-in-Some.new.self.marks.items < unseen t.marks.items = c.in_ok-enter-2.ensures.fewer in
    let b : unseen t.marks.items ≤ unseen s.marks.items =
    unseen_less s.marks.items t.marks.items (c.next.ensures.search.marked ∙ sym c.loop-state.invariant.search.marked) c.next.ensures.keeps.seen in
    let k : unseen c.enter-in-Some.new.self.marks.items < unseen s.marks.items = omega (arith, a, b) in
    k

pub returns-clause-seen : goal.returns-clause-seen
returns-clause-seen c = λ e. c.in_ok-enter.ensures.seen (c.loop-state.invariant.keeps.seen c.args.root (c.next.ensures.keeps.seen c.args.root e))
