use Rattle.std.proofs.Common.{sym, ◌∙◌, ap, arith}
use Rattle.std.proofs.lemmas.List.{map_push}
use Rattle.std.proofs.lemmas.Result.{err_from_is_err_and}
use Rattle.serde_json.specs.View.{view}
use Rattle.serde_json.specs.declared.value.Value.{Value}
use Rattle.json_parts.proofs.TurnLemmas.{all_more, all_stop, turn_end}
use Rattle.json_parts.specs.Turns.{behind}
use Rattle.network_file.specs.Named.{link_at}
use Rattle.network_file.specs.Views.{link_view, link_views}
use Rattle.network_file.proofs.named.links.Goals as goal

pub returns-in_err-link : goal.returns-in_err-link
returns-in_err-link c =
    let p = err_from_is_err_and c.from_residual.result c.from_residual.ensures.1 in
    let is = ap (λ (v : Value). link_at c.loop-i.i (view v)) (sym c.index-list-i.is) in
    rw (p.1, p.2) (λ other. all_stop link_at view (link_views c.loop-i.links.items) c.loop-i.i c.args.list.now c.index-list-i.result _ _ (omega arith) (is ∙ c.in_err-link.ensures other) c.loop-i.invariant)

pub loop-i-preserved : goal.loop-i-preserved
loop-i-preserved c =
    let is = ap (λ (v : Value). link_at c.loop-i.i (view v)) (sym c.index-list-i.is) in
    rw (c.in_ok-push.ensures.items, map_push link_view c.loop-i.links.items c.in_ok-link.field-0)
    (all_more link_at view (link_views c.loop-i.links.items) c.loop-i.i c.args.list.now c.index-list-i.result _ (link_view c.in_ok-link.field-0) (omega arith) (is ∙ c.in_ok-link.ensures) c.loop-i.invariant)

pub returns : goal.returns
returns c = turn_end (behind link_at) view (link_views c.loop-i.links.items) c.loop-i.i c.args.list.now _ (omega arith) c.loop-i.invariant
