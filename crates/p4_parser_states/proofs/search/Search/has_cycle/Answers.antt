use Rattle.std.proofs.Common.{◌≡◌, ◌<◌, length, get_or, sym, ◌∙◌, arith}
use Rattle.std.proofs.lemmas.List.{get_or_default}
use Rattle.p4_parser_states.specs.Graphs.{graph_of}
use Rattle.p4_parser_states.proofs.Opening.{row_of}
use Rattle.p4_parser_states.proofs.Closing.{alone_has}
use Rattle.p4_parser_states.proofs.search.Search.has_cycle.Goals as goal

pub returns : goal.returns
returns c =
    let s = c.args.self.now in
    let e : get_or s.stack.items c.args.start 0 ≡ c.index.result.now = get_or_default s.stack.items c.args.start 0 c.index.result.now c.requires.within ∙ sym c.index.ensures in
    let k : c.index.result.now < length c.args.follows.now = omega (arith, e, c.requires.known) in
    alone_has (graph_of c.args.follows.now) s c.args.start c.index.result.now c.deref.result.now c.contains.result
    c.contains.ensures.value
    (row_of c.args.follows.now c.index.result.now c.index-follows-first.result k c.index-follows-first.is ∙ sym c.deref.ensures.value)
    e
    (let l : length s.stack.items ≡ c.len.result = omega (arith, s.stack.ok.0, c.len.ensures) in omega (arith, l, c.if-len-start-gt1.false))
