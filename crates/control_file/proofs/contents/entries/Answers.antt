use Rattle.std.proofs.Common.{sym, ◌∙◌, ap, arith}
use Rattle.std.proofs.lemmas.Result.{err_from_is_err_and}
use Rattle.serde_json.specs.View.{view}
use Rattle.serde_json.specs.declared.value.Value.{Value}
use Rattle.json_parts.proofs.TurnLemmas.{turn_end}
use Rattle.indus_values.specs.View.{entry_of}
use Rattle.control_file.specs.Contents.{entry_numbers, with_new, dict_entry_at}
use Rattle.control_file.specs.Views.{seen_numbers}
use Rattle.control_file.proofs.NewLemmas.{new_more, new_stop, seen_more}
use Rattle.control_file.proofs.contents.entries.Goals as goal

pub returns-in_err-numbered_entry : goal.returns-in_err-numbered_entry
returns-in_err-numbered_entry c =
    let l = c.loop-i in
    let read = dict_entry_at c.args.path.now c.args.types.now c.args.ty in
    let p = err_from_is_err_and c.from_residual.result c.from_residual.ensures.1 in
    let is = ap (λ (v : Value). read l.i (seen_numbers l.seen.keys) (view v)) (sym c.index-list-i.is) in
    rw (p.1, p.2) (λ other. new_stop entry_numbers read entry_of l.entries.items l.seen.keys l.invariant.0 l.i c.args.list.now c.index-list-i.result _ (omega arith) l.invariant.1 _ (is ∙ c.in_err-numbered_entry.ensures.entry other))

pub loop-i-preserved : goal.loop-i-preserved
loop-i-preserved c =
    let l = c.loop-i in
    let read = dict_entry_at c.args.path.now c.args.types.now c.args.ty in
    let is = ap (λ (v : Value). read l.i (seen_numbers l.seen.keys) (view v)) (sym c.index-list-i.is) in
    rw c.in_ok-push.ensures.items (
      seen_more entry_numbers read entry_of l.entries.items l.seen.keys l.invariant.0 c.numbered_entry.new.seen.keys c.in_ok-numbered_entry.field-0 c.in_ok-numbered_entry.ensures.added,
      new_more entry_numbers read entry_of l.entries.items l.seen.keys l.invariant.0 l.i c.args.list.now c.index-list-i.result _ (omega arith) l.invariant.1 c.in_ok-numbered_entry.field-0 (is ∙ c.in_ok-numbered_entry.ensures.entry),
    )

pub returns : goal.returns
returns c = turn_end (with_new entry_numbers (dict_entry_at c.args.path.now c.args.types.now c.args.ty)) view _ c.loop-i.i c.args.list.now _ (omega arith) c.loop-i.invariant.1
