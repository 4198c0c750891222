use Rattle.std.proofs.Common.{ap, length, ◌∙◌}
use Rattle.std.proofs.lemmas.Result.{IfOk-weaker}
use Rattle.p4_parts.proofs.Placed.{place_or}
use Rattle.p4_tables.proofs.ActionNames.{placed}
use Rattle.p4_tables.proofs.start.action_place.Goals as goal

pub returns-in-Some : goal.returns-in-Some
returns-in-Some c =
    let items = c.args.actions.now.actions.now in
    IfOk-weaker c.number.result _ _ (λ n h. h ∙ ap (place_or (length items)) c.in-Some.ensures ∙ placed items c.args.name.now) c.number.ensures

pub returns-in-None : goal.returns-in-None
returns-in-None c =
    let items = c.args.actions.now.actions.now in
    IfOk-weaker c.number-in-None.result _ _ (λ n h. h ∙ ap (place_or (length items)) c.in-None.ensures ∙ placed items c.args.name.now) c.number-in-None.ensures
