use Rattle.std.proofs.Common.{sym, ◌∙◌, ap, map, arith}
use Rattle.std.proofs.lemmas.List.{map_push}
use Rattle.std.proofs.lemmas.Result.{err_from_is_err_and}
use Rattle.json_parts.proofs.TurnLemmas.{all_more, all_stop, turn_end}
use Rattle.json_parts.specs.Turns.{behind}
use Rattle.table_entries.specs.View.{match_of}
use Rattle.entry_parts.specs.Matches.{match_at}
use Rattle.entry_parts.specs.Views.{part_view}
use Rattle.entry_parts.specs.declared.parts.Part.{Part}
use Rattle.entry_parts.proofs.matches.matches.Goals as goal

pub returns-in_err-asked_at : goal.returns-in_err-asked_at
returns-in_err-asked_at c =
    let p = err_from_is_err_and c.from_residual.result c.from_residual.ensures.1 in
    let is = ap (λ (part : Part). match_at c.args.path.now c.loop-i.i (part_view part)) (sym c.index-parts-i.is) in
    rw (p.1, p.2) (λ other. all_stop (match_at c.args.path.now) part_view (map match_of c.loop-i.list.items) c.loop-i.i c.args.parts.now c.index-parts-i.result _ _ (omega arith) (is ∙ c.in_err-asked_at.ensures other) c.loop-i.invariant)

pub loop-i-preserved : goal.loop-i-preserved
loop-i-preserved c =
    let is = ap (λ (part : Part). match_at c.args.path.now c.loop-i.i (part_view part)) (sym c.index-parts-i.is) in
    rw (c.in_ok-push.ensures.items, map_push match_of c.loop-i.list.items c.in_ok-asked_at.field-0)
    (all_more (match_at c.args.path.now) part_view (map match_of c.loop-i.list.items) c.loop-i.i c.args.parts.now c.index-parts-i.result _ (match_of c.in_ok-asked_at.field-0) (omega arith) (is ∙ c.in_ok-asked_at.ensures) c.loop-i.invariant)

pub returns : goal.returns
returns c = turn_end (behind (match_at c.args.path.now)) part_view (map match_of c.loop-i.list.items) c.loop-i.i c.args.parts.now _ (omega arith) c.loop-i.invariant
