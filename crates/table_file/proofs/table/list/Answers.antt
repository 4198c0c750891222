use Rattle.std.proofs.Common.{sym, ◌∙◌, ap, arith}
use Rattle.std.proofs.lemmas.Result.{err_from_is_err_and}
use Rattle.serde_json.specs.View.{view}
use Rattle.serde_json.specs.declared.value.Value.{Value}
use Rattle.json_parts.proofs.TurnLemmas.{turn_more, turn_stop, turn_end}
use Rattle.table_file.specs.Tables.{with_entry}
use Rattle.table_file.specs.Views.{place_view}
use Rattle.table_file.proofs.table.list.Goals as goal

pub returns-in_err-entry-clause-answer : goal.returns-in_err-entry-clause-answer
returns-in_err-entry-clause-answer c =
    let p = err_from_is_err_and c.from_residual.result c.from_residual.ensures.1 in
    let is = ap (λ (v : Value). with_entry (place_view c.args.place) c.args.path.now c.loop-i.state c.loop-i.i (view v)) (sym c.index-list-i.is) in
    rw (p.1, p.2) (λ other. turn_stop (with_entry (place_view c.args.place) c.args.path.now) view c.loop-i.state c.loop-i.i c.args.list.now c.index-list-i.result _ _ (omega arith) (is ∙ c.in_err-entry.ensures.answer other) c.loop-i.invariant.so_far)

pub loop-i-preserved : goal.loop-i-preserved
loop-i-preserved c =
    let is = ap (λ (v : Value). with_entry (place_view c.args.place) c.args.path.now c.loop-i.state c.loop-i.i (view v)) (sym c.index-list-i.is) in
    record {
      so_far = turn_more (with_entry (place_view c.args.place) c.args.path.now) view c.loop-i.state c.loop-i.i c.args.list.now c.index-list-i.result _ c.entry.new.state (omega arith) (is ∙ c.in_ok-entry.ensures.answer) c.loop-i.invariant.so_far;
      same = c.in_ok-entry.ensures.shapes ∙ c.loop-i.invariant.same;
      within = rw c.in_ok-entry.ensures.shapes c.loop-i.invariant.within;
    }

pub returns-clause-answer : goal.returns-clause-answer
returns-clause-answer c = turn_end (with_entry (place_view c.args.place) c.args.path.now) view c.loop-i.state c.loop-i.i c.args.list.now _ (omega arith) c.loop-i.invariant.so_far
