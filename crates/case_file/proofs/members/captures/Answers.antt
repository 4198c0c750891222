use Rattle.std.proofs.Common.{sym, ◌∙◌, ap, arith}
use Rattle.std.proofs.lemmas.List.{map_push}
use Rattle.std.proofs.lemmas.Result.{err_from_is_err_and}
use Rattle.serde_json.specs.View.{view}
use Rattle.serde_json.specs.declared.value.Value.{Value}
use Rattle.json_parts.proofs.TurnLemmas.{all_more, all_stop, turn_end}
use Rattle.json_parts.specs.Turns.{behind}
use Rattle.case_file.specs.Case.{capture_at}
use Rattle.case_file.specs.Views.{capture_view, capture_views}
use Rattle.case_file.proofs.members.captures.Goals as goal

pub returns-in_err-capture_at : goal.returns-in_err-capture_at
returns-in_err-capture_at c =
    let p = err_from_is_err_and c.from_residual.result c.from_residual.ensures.1 in
    let is = ap (λ (v : Value). capture_at c.loop-i.i (view v)) (sym c.index-list-i.is) in
    rw (p.1, p.2) (λ other. all_stop capture_at view (capture_views c.loop-i.captures.items) c.loop-i.i c.args.list.now c.index-list-i.result _ _ (omega arith) (is ∙ c.in_err-capture_at.ensures other) c.loop-i.invariant)

pub loop-i-preserved : goal.loop-i-preserved
loop-i-preserved c =
    let is = ap (λ (v : Value). capture_at c.loop-i.i (view v)) (sym c.index-list-i.is) in
    rw (c.in_ok-push.ensures.items, map_push capture_view c.loop-i.captures.items c.in_ok-capture_at.field-0)
    (all_more capture_at view (capture_views c.loop-i.captures.items) c.loop-i.i c.args.list.now c.index-list-i.result _ (capture_view c.in_ok-capture_at.field-0) (omega arith) (is ∙ c.in_ok-capture_at.ensures) c.loop-i.invariant)

pub returns : goal.returns
returns c = turn_end (behind capture_at) view (capture_views c.loop-i.captures.items) c.loop-i.i c.args.list.now _ (omega arith) c.loop-i.invariant
