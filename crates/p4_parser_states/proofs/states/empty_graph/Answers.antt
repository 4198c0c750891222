use Rattle.std.proofs.Common.{◌≡◌, ℕ, ◌+◌, List, [], ◌∷◌, length, length-append, sym, ◌∙◌, ap, subst, arith, Vec, Global}
use Rattle.p4_parser_states.specs.Graphs.{Follows, graph_of}
use Rattle.p4_parser_states.proofs.Numbered.{no_rows, rows_more}
use Rattle.p4_parser_states.proofs.states.empty_graph.Goals as goal

pub loop-i-init : goal.loop-i-init
loop-i-init c = record {
  none = no_rows c.new-follows.result.items c.new-follows.ensures.items;
  len = ap (λ (fs : List (Vec ℕ Global)). length fs) c.new-follows.ensures.items;
}

pub loop-i-preserved : goal.loop-i-preserved
loop-i-preserved c =
    let fs = c.loop-i.follows.items in
    let v = c.new-row.result in
    let P : List (Vec ℕ Global) → Type 0 = λ us. (i j : ℕ) → Follows (graph_of us) i j → ⊥ in
    let more : length c.push.new.self.items ≡ length fs + 1 = ap (λ (us : List (Vec ℕ Global)). length us) c.in_ok-push.ensures.items ∙ length-append fs (v ∷ []) in
    record {
      none = subst P (sym c.in_ok-push.ensures.items) (rows_more fs v c.loop-i.invariant.none c.new-row.ensures.items);
      len = omega (arith, more, c.loop-i.invariant.len);
    }
