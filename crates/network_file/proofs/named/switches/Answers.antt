use Rattle.std.proofs.Common.{sym, ◌∙◌, ap, arith}
use Rattle.std.proofs.lemmas.List.{map_push}
use Rattle.std.proofs.lemmas.Result.{err_from_is_err_and}
use Rattle.serde_json.specs.View.{view}
use Rattle.serde_json.specs.declared.value.Value.{Value}
use Rattle.json_parts.proofs.TurnLemmas.{all_more, all_stop, turn_end}
use Rattle.json_parts.specs.Turns.{behind}
use Rattle.json_parts.specs.Views.{texts}
use Rattle.network_file.specs.Named.{switch_at}
use Rattle.network_file.proofs.named.switches.Goals as goal

pub returns-in_err-switch : goal.returns-in_err-switch
returns-in_err-switch c =
    let p = err_from_is_err_and c.from_residual.result c.from_residual.ensures.1 in
    let is = ap (λ (v : Value). switch_at c.loop-i.i (view v)) (sym c.index-list-i.is) in
    rw (p.1, p.2) (λ other. all_stop switch_at view (texts c.loop-i.switches.items) c.loop-i.i c.args.list.now c.index-list-i.result _ _ (omega arith) (is ∙ c.in_err-switch.ensures other) c.loop-i.invariant)

pub loop-i-preserved : goal.loop-i-preserved
loop-i-preserved c =
    let is = ap (λ (v : Value). switch_at c.loop-i.i (view v)) (sym c.index-list-i.is) in
    rw (c.in_ok-push.ensures.items, map_push (λ s. s.now) c.loop-i.switches.items c.in_ok-switch.field-0)
    (all_more switch_at view (texts c.loop-i.switches.items) c.loop-i.i c.args.list.now c.index-list-i.result _ c.in_ok-switch.field-0.now (omega arith) (is ∙ c.in_ok-switch.ensures) c.loop-i.invariant)

pub returns : goal.returns
returns c = turn_end (behind switch_at) view (texts c.loop-i.switches.items) c.loop-i.i c.args.list.now _ (omega arith) c.loop-i.invariant
