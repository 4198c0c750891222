use Rattle.std.proofs.Common.{◌≡◌, ℕ, suc, ◌+◌, [], ◌∷◌, map, drop, add-one, sym, ap, ◌∙◌, arith}
use Rattle.std.proofs.Math.Seq.{drop-cons}
use Rattle.p4_meaning.specs.Store.{Store, set_value}
use Rattle.p4_meaning.specs.Actions.{bound}
use Rattle.p4_parts.specs.PartsIn.{param_in}
use Rattle.p4_statements.specs.Calls.{word_at}
use Rattle.p4_packets.specs.Fields.{store_of}
use Rattle.p4_statements.proofs.TablesLemmas.{bound_step}
use Rattle.p4_statements.proofs.tables.bind.Goals as goal

pub loop-i-preserved : goal.loop-i-preserved
loop-i-preserved c =
    let ps = c.args.params.now in
    let ws = c.args.words.now in
    let i : ℕ = c.loop-i.i in
    let p = c.index-params-i.result in
    let s = store_of c.loop-i.s in
    let rest = map param_in (drop (i + 1) ps) in
    let behind : Store = set_value s ((param_in p).name ∷ []) (word_at (param_in p).width (drop i ws)) in
    let first : drop i ps ≡ p ∷ drop (i + 1) ps = drop-cons ps i p (omega arith) ∙ ap (λ q. q ∷ drop (suc i) ps) (sym c.index-params-i.is) ∙ ap (λ n. p ∷ drop n ps) (sym (add-one i)) in
    ap (bound rest (drop (i + 1) ws)) c.in_ok-bind_one.ensures
    ∙ ap (λ n. bound rest (drop n ws) behind) (add-one i)
    ∙ sym (bound_step (param_in p) rest ws i s)
    ∙ ap (λ l. bound (map param_in l) (drop i ws) s) (sym first)
    ∙ c.loop-i.invariant
