use Rattle.std.proofs.Common.{sym, ◌∙◌, ap, arith}
use Rattle.std.proofs.lemmas.Result.{err_from_is_err_and}
use Rattle.serde_json.specs.View.{view}
use Rattle.serde_json.specs.declared.value.Value.{Value}
use Rattle.json_parts.proofs.TurnLemmas.{turn_more, turn_stop, turn_end}
use Rattle.schedule_file.specs.Schedule.{with_member}
use Rattle.schedule_file.specs.Views.{around_view}
use Rattle.schedule_file.proofs.reading.read_members.Goals as goal

pub returns-in_err-read : goal.returns-in_err-read
returns-in_err-read c =
    let step = with_member (around_view c.args.around) in
    let p = err_from_is_err_and c.from_residual-in_err-read.result c.from_residual-in_err-read.ensures.1 in
    let is = ap (λ (v : Value). step c.loop-i.reading c.loop-i.i (view v)) (sym c.index-list-i.is) in
    rw (p.1, p.2) (λ other. turn_stop step view c.loop-i.reading c.loop-i.i c.args.list.now c.index-list-i.result _ _ (omega arith) (is ∙ c.in_err-read.ensures other) c.loop-i.invariant)

pub loop-i-preserved : goal.loop-i-preserved
loop-i-preserved c =
    let step = with_member (around_view c.args.around) in
    let is = ap (λ (v : Value). step c.loop-i.reading c.loop-i.i (view v)) (sym c.index-list-i.is) in
    turn_more step view c.loop-i.reading c.loop-i.i c.args.list.now c.index-list-i.result _ _ (omega arith) (is ∙ c.in_ok-read.ensures) c.loop-i.invariant

pub returns : goal.returns
returns c = turn_end (with_member (around_view c.args.around)) view c.loop-i.reading c.loop-i.i c.args.list.now _ (omega arith) c.loop-i.invariant
