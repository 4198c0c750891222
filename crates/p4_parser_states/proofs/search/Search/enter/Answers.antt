use Rattle.std.proofs.Common.{◌≡◌, ℕ, List, [], ◌∷◌, ◌++◌, ◌<◌, map, length, get_or, set, sym, ◌∙◌, ap, arith}
use Rattle.p4_parser_states.specs.Graphs.{graph_of}
use Rattle.p4_parser_states.specs.declared.search.Mark.TheVariants.{Open}
use Rattle.p4_parser_states.proofs.Opening.{row_of, length_graph, entered, unseen_set, opened_seen}
use Rattle.p4_parser_states.proofs.search.Search.enter.Goals as goal

pub returns-clause-search : goal.returns-clause-search
returns-clause-search c =
    let s = c.args.self.now in
    let x = c.args.state in
    let size : c.len-place.result ≡ length s.stack.items = omega (arith, s.stack.ok.0, c.len-place.ensures) in
    let k : x < length c.args.follows.now = omega (arith, c.requires.next.within, length_graph c.args.follows.now) in
    let row : c.deref.result.now ≡ get_or (graph_of c.args.follows.now) x [] = c.deref.ensures.value ∙ sym (row_of c.args.follows.now x c.index-follows-state.result k c.index-follows-state.is) in
    let waits : c.await_all.new.waiting.items ≡ s.waiting.items ++ map (λ (y : ℕ). (c.len-place.result, y)) c.deref.result.now = c.in_ok-await_all.ensures in
    entered (graph_of c.args.follows.now) s _ x c.requires.search c.requires.next
    (ap (λ (n : ℕ). set s.marks.items x (Open n)) size)
    c.in_ok-push.ensures.items
    (c.in_ok-push-2.ensures.items ∙ ap (λ (n : ℕ). s.starts.items ++ n ∷ []) size)
    (waits ∙ ap (λ (ys : List ℕ). s.waiting.items ++ map (λ (y : ℕ). (c.len-place.result, y)) ys) row
    ∙ ap (λ (n : ℕ). s.waiting.items ++ map (λ (y : ℕ). (n, y)) (get_or (graph_of c.args.follows.now) x [])) size)

pub returns-clause-fewer : goal.returns-clause-fewer
returns-clause-fewer c =
    let s = c.args.self.now in
    let k : c.args.state < length s.marks.items = omega (arith, c.requires.next.within, c.requires.search.marked) in
    unseen_set s.marks.items c.args.state c.len-place.result k c.requires.next.fresh

pub returns-clause-seen : goal.returns-clause-seen
returns-clause-seen c =
    let s = c.args.self.now in
    let k : c.args.state < length s.marks.items = omega (arith, c.requires.next.within, c.requires.search.marked) in
    opened_seen s.marks.items c.args.state c.len-place.result k
