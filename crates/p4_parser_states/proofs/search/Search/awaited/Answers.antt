use Rattle.std.proofs.Common.{◌≡◌, ℕ, [], ◌∷◌, ◌++◌, ◌-◌, ◌<◌, length, take, get_or, sym, ◌∙◌, ap, arith}
use Rattle.p4_parser_states.proofs.Lists.{last_of}
use Rattle.p4_parser_states.proofs.Passing.{waiting_below}
use Rattle.p4_parser_states.proofs.search.Search.awaited.Goals as goal

pub returns-then-place-start-clause-none : goal.returns-then-place-start-clause-none
returns-then-place-start-clause-none c =
    let s = c.args.self.now in
    let x = c.index.result.now in
    let k : length s.waiting.items ≡ c.len-count.result = omega (arith, s.waiting.ok.0, c.len-count.ensures) in
    let l : 0 < length s.waiting.items = omega (arith, k, c.if-count-eq0.false) in
    let e : x ≡ get_or s.waiting.items (length s.waiting.items - 1) x = c.index.ensures ∙ ap (λ (n : ℕ). get_or s.waiting.items (n - 1) x) (sym k) in
    waiting_below s.waiting.items x.0 x.1 c.args.start c.requires.1.waiting_rise (last_of s.waiting.items x l ∙ ap (λ (y : ℕ × ℕ). take (length s.waiting.items - 1) s.waiting.items ++ y ∷ []) (sym e)) c.if-place-start.true
