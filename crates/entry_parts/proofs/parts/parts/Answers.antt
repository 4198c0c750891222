use Rattle.std.proofs.Common.{sym, ◌∙◌, ap, arith}
use Rattle.std.proofs.lemmas.List.{map_push}
use Rattle.std.proofs.lemmas.Result.{err_from_is_err_and}
use Rattle.serde_json.specs.View.{view}
use Rattle.serde_json.specs.declared.value.Value.{Value}
use Rattle.json_parts.proofs.TurnLemmas.{all_more, all_stop, turn_end}
use Rattle.json_parts.specs.Turns.{behind}
use Rattle.entry_parts.specs.Written.{part_at}
use Rattle.entry_parts.specs.Views.{part_view, part_views}
use Rattle.entry_parts.proofs.parts.parts.Goals as goal

pub returns-in_err-part_at : goal.returns-in_err-part_at
returns-in_err-part_at c =
    let p = err_from_is_err_and c.from_residual.result c.from_residual.ensures.1 in
    let is = ap (λ (v : Value). part_at c.args.path.now c.args.keys.now c.loop-i.i (view v)) (sym c.index-list-i.is) in
    rw (p.1, p.2) (λ other. all_stop (part_at c.args.path.now c.args.keys.now) view (part_views c.loop-i.parts.items) c.loop-i.i c.args.list.now c.index-list-i.result _ _ (omega arith) (is ∙ c.in_err-part_at.ensures other) c.loop-i.invariant)

pub loop-i-preserved : goal.loop-i-preserved
loop-i-preserved c =
    let is = ap (λ (v : Value). part_at c.args.path.now c.args.keys.now c.loop-i.i (view v)) (sym c.index-list-i.is) in
    rw (c.in_ok-push.ensures.items, map_push part_view c.loop-i.parts.items c.in_ok-part_at.field-0)
    (all_more (part_at c.args.path.now c.args.keys.now) view (part_views c.loop-i.parts.items) c.loop-i.i c.args.list.now c.index-list-i.result _ (part_view c.in_ok-part_at.field-0) (omega arith) (is ∙ c.in_ok-part_at.ensures) c.loop-i.invariant)

pub returns : goal.returns
returns c = turn_end (behind (part_at c.args.path.now c.args.keys.now)) view (part_views c.loop-i.parts.items) c.loop-i.i c.args.list.now _ (omega arith) c.loop-i.invariant
