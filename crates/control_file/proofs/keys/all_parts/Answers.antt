use Rattle.std.proofs.Common.{sym, ◌∙◌, ap, arith}
use Rattle.std.proofs.lemmas.Result.{err_from_is_err_and}
use Rattle.serde_json.specs.View.{view}
use Rattle.serde_json.specs.declared.value.Value.{Value}
use Rattle.json_parts.proofs.TurnLemmas.{all_more, all_stop, turn_end}
use Rattle.json_parts.specs.Turns.{behind}
use Rattle.control_file.specs.Keys.{part_at}
use Rattle.control_file.proofs.keys.all_parts.Goals as goal

pub returns-in_err-part : goal.returns-in_err-part
returns-in_err-part c =
    let read = part_at c.args.path.now c.args.types.now in
    let p = err_from_is_err_and c.from_residual.result c.from_residual.ensures.1 in
    let is = ap (λ (v : Value). read c.loop-i.i (view v)) (sym c.index-list-i.is) in
    rw (p.1, p.2) (λ other. all_stop read view c.loop-i.parts.items c.loop-i.i c.args.list.now c.index-list-i.result _ _ (omega arith) (is ∙ c.in_err-part.ensures other) c.loop-i.invariant)

pub loop-i-preserved : goal.loop-i-preserved
loop-i-preserved c =
    let read = part_at c.args.path.now c.args.types.now in
    let is = ap (λ (v : Value). read c.loop-i.i (view v)) (sym c.index-list-i.is) in
    rw c.in_ok-push.ensures.items
    (all_more read view c.loop-i.parts.items c.loop-i.i c.args.list.now c.index-list-i.result _ c.in_ok-part.field-0 (omega arith) (is ∙ c.in_ok-part.ensures) c.loop-i.invariant)

pub returns : goal.returns
returns c = turn_end (behind (part_at c.args.path.now c.args.types.now)) view c.loop-i.parts.items c.loop-i.i c.args.list.now _ (omega arith) c.loop-i.invariant
