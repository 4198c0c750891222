use Rattle.std.proofs.Common.{map, sym, ap, ◌∙◌, subst}
use Rattle.p4_meaning.specs.Actions.{action_named}
use Rattle.p4_parts.specs.PartsIn.{action_in, table_in}
use Rattle.slot_terms.specs.Places.{places_of}
use Rattle.slot_controls.specs.Steps.{action_slots_of, step_of}
use Rattle.slot_control_codes.specs.Callees.{callees_of}
use Rattle.slot_control_codes.specs.Found.{IsBodyMore}
use Rattle.slot_control_codes.proofs.BodyLemmas.{have_more}
use Rattle.slot_control_codes.proofs.bodies.add_listed.Goals as goal

pub returns-in_ok-add_body-in-Some-clause-have : goal.returns-in_ok-add_body-in-Some-clause-have
returns-in_ok-add_body-in-Some-clause-have c have =
    let k = callees_of c.args.k.now in
    let m = places_of c.args.places.now in
    let xs = map action_slots_of c.args.bodies.now.slots.items in
    let ys = map action_slots_of c.add_body.new.bodies.slots.items in
    let cs = map step_of c.args.bodies.now.steps.items in
    let ds = map step_of c.add_body.new.bodies.steps.items in
    have_more k m (table_in c.args.t.now) c.args.i (action_in c.args.item.now) c.requires.at xs cs have ys ds (action_in c.in-Some.a.now) (ap (action_named k.actions) (sym c.as_str-name.ensures) ∙ sym c.in-Some.ensures)
    (subst (λ n. IsBodyMore k m (action_in c.in-Some.a.now) n xs ys cs ds) c.in_ok-number-in-Some.ensures c.in_ok-add_body-in-Some.ensures.more)
