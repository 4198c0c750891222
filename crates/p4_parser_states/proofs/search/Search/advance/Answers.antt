use Rattle.std.proofs.Common.{◌<◌, length, get_or, sym, ◌∙◌, subst, arith}
use Rattle.p4_parser_states.specs.Graphs.{graph_of}
use Rattle.p4_parser_states.specs.Search.{IsSettled}
use Rattle.p4_parser_states.specs.declared.search.Mark.{Mark}
use Rattle.p4_parser_states.proofs.Opening.{length_graph}
use Rattle.p4_parser_states.proofs.Closing.{awaited_within, found_next, mark_read, start_within, node_within}
use Rattle.p4_parser_states.proofs.search.Search.advance.Goals as goal

pub index-requires : goal.index-requires
index-requires c =
    let s = c.args.self.now in
    let g = graph_of c.args.follows.now in
    let k : c.in-Some.onto < length g = awaited_within g s c.args.start c.in-Some.onto c.requires.graph c.requires.search c.in-Some.ensures.last in
    omega (arith, k, c.requires.search.marked, s.marks.ok.0)

pub returns-in-New-clause-found : goal.returns-in-New-clause-found
returns-in-New-clause-found c =
    let s = c.args.self.now in
    let g = graph_of c.args.follows.now in
    let k : c.in-Some.onto < length g = awaited_within g s c.args.start c.in-Some.onto c.requires.graph c.requires.search c.in-Some.ensures.last in
    let l : c.in-Some.onto < length s.marks.items = omega (arith, k, c.requires.search.marked) in
    found_next g s c.args.start c.in-Some.onto c.requires.graph c.requires.search c.requires.last c.in-Some.ensures.last
    (mark_read s c.in-Some.onto c.index.result.now l c.index.ensures ∙ c.in-New.is)

pub close-requires-clause-within : goal.close-requires-clause-within
close-requires-clause-within c = start_within (graph_of c.args.follows.now) c.args.self.now c.args.start c.requires.search c.requires.last

pub close-requires-clause-known : goal.close-requires-clause-known
close-requires-clause-known c =
    let s = c.args.self.now in
    let g = graph_of c.args.follows.now in
    let k : get_or s.stack.items c.args.start 0 < length g = node_within g s c.args.start c.requires.search (start_within g s c.args.start c.requires.search c.requires.last) in
    omega (arith, k, length_graph c.args.follows.now)

pub returns-then-place-start-clause-step : goal.returns-then-place-start-clause-step
returns-then-place-start-clause-step c =
    let s = c.args.self.now in
    let g = graph_of c.args.follows.now in
    let k : c.in-Some.onto < length g = awaited_within g s c.args.start c.in-Some.onto c.requires.graph c.requires.search c.in-Some.ensures.last in
    let l : c.in-Some.onto < length s.marks.items = omega (arith, k, c.requires.search.marked) in
    c.join.ensures g c.args.start c.in-Some.onto c.in-Open.place c.requires.search c.requires.last c.in-Some.ensures.last
    (mark_read s c.in-Some.onto c.index.result.now l c.index.ensures ∙ c.in-Open.is) c.if-place-start.true

pub returns-else-place-start-clause-step : goal.returns-else-place-start-clause-step
returns-else-place-start-clause-step c =
    let s = c.args.self.now in
    let g = graph_of c.args.follows.now in
    let k : c.in-Some.onto < length g = awaited_within g s c.args.start c.in-Some.onto c.requires.graph c.requires.search c.in-Some.ensures.last in
    let l : c.in-Some.onto < length s.marks.items = omega (arith, k, c.requires.search.marked) in
    let P : Mark → Type 0 = λ m. IsSettled c.args.start m in
    c.pass.ensures g c.args.start c.in-Some.onto c.requires.search c.requires.last c.in-Some.ensures.last
    (subst P (sym (mark_read s c.in-Some.onto c.index.result.now l c.index.ensures ∙ c.in-Open.is)) c.if-place-start.false)

pub returns-in-Done-clause-step : goal.returns-in-Done-clause-step
returns-in-Done-clause-step c =
    let s = c.args.self.now in
    let g = graph_of c.args.follows.now in
    let k : c.in-Some.onto < length g = awaited_within g s c.args.start c.in-Some.onto c.requires.graph c.requires.search c.in-Some.ensures.last in
    let l : c.in-Some.onto < length s.marks.items = omega (arith, k, c.requires.search.marked) in
    let P : Mark → Type 0 = λ m. IsSettled c.args.start m in
    c.pass-in-Done.ensures g c.args.start c.in-Some.onto c.requires.search c.requires.last c.in-Some.ensures.last
    (subst P (sym (mark_read s c.in-Some.onto c.index.result.now l c.index.ensures ∙ c.in-Done.is)) tt)
