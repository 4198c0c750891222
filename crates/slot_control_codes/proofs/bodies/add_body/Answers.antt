use Rattle.std.proofs.Common.{◌≡◌, None, map, sym, ap, ◌∙◌, subst}
use Rattle.std.specs.Prelude.{max}
use Rattle.p4_tree.specs.View.{stmts_of}
use Rattle.p4_parts.specs.PartsIn.{action_in, param_in}
use Rattle.slot_terms.specs.Places.{places_of, IsLaid}
use Rattle.slot_statements.specs.Parameters.{masked_from, with_params}
use Rattle.slot_statements.specs.Runs.{Grows}
use Rattle.slot_statements.proofs.FlowLemmas.{grows_twice}
use Rattle.slot_statements.proofs.CallLemmas.{params_laid, params_grow, cut_to}
use Rattle.slot_controls.specs.Steps.{action_slots_of, most_told, most_told_one, step_of, steps_from, steps_of}
use Rattle.slot_controls.specs.StepRuns.{DoAllSteps}
use Rattle.slot_control_codes.specs.Callees.{bare_of, callees_of}
use Rattle.slot_control_codes.specs.Known.{known_calls, steps_behind_all}
use Rattle.slot_control_codes.proofs.BodyLemmas.{at_exit, body_more, body_unknown, one-append}
use Rattle.slot_control_codes.proofs.bodies.add_body.Goals as goal

pub stmts_steps-requires : goal.stmts_steps-requires
stmts_steps-requires c =
    subst IsLaid (sym c.in_ok-masked.ensures.places)
    (params_laid (places_of c.args.places.now) (map param_in c.deref.result.now) c.requires c.in_ok-masked.ensures.free)

pub returns-clause-same : goal.returns-clause-same
returns-clause-same c =
    cut_to (places_of c.args.places.now) (places_of c.stmts_steps.new.places) (places_of c.cut_back.new.places) c.row_count-count.result c.row_count-count.ensures
    (grows_twice (places_of c.args.places.now) (places_of c.masked.new.places) (places_of c.stmts_steps.new.places)
    (subst (λ n. Grows (places_of c.args.places.now) n) (sym c.in_ok-masked.ensures.places) (params_grow (places_of c.args.places.now) (map param_in c.deref.result.now)))
    c.in_ok-body.ensures.grows)
    c.cut_back.ensures

pub returns-clause-more : goal.returns-clause-more
returns-clause-more c =
    let m = places_of c.args.places.now in
    let places : places_of c.masked.new.places ≡ with_params m (map param_in c.args.a.now.params.items) = rw c.deref.ensures.value at c.in_ok-masked.ensures.places in
    let slots : c.masked.new.slots.items ≡ masked_from m.next (map param_in c.args.a.now.params.items) = rw (c.deref.ensures.value, c.new-slots.ensures.items) at c.in_ok-masked.ensures.slots in
    body_more (callees_of c.args.k.now) (bare_of c.bare-bare.result) m (places_of c.masked.new.places) (places_of c.stmts_steps.new.places) (action_in c.args.a.now) c.args.number
    (map action_slots_of c.args.bodies.now.slots.items) (map action_slots_of c.push_body.new.bodies.slots.items) (map step_of c.args.bodies.now.steps.items) (map step_of c.push_body.new.bodies.steps.items)
    c.masked.new.slots.items (steps_of c.in_ok-body.body.items) (step_of c.group_step.result) c.bare-bare.ensures places c.requires (rw c.deref.ensures.value at c.in_ok-masked.ensures.free) slots c.group_step.ensures
    (subst (λ xs. DoAllSteps (bare_of c.bare-bare.result) (places_of c.masked.new.places) (places_of c.stmts_steps.new.places) (steps_of c.in_ok-body.body.items) (stmts_of xs)) c.deref-2.ensures.value c.in_ok-body.ensures.do_all)
    c.in_ok-push_body.ensures.slots c.in_ok-push_body.ensures.steps

pub returns-clause-told : goal.returns-clause-told
returns-clause-told c =
    ap (λ cs. most_told_one (steps_from cs)) c.in_ok-push_body.ensures.steps ∙ one-append (map step_of c.args.bodies.now.steps.items) (step_of c.group_step.result)
    ∙ ap (λ i. max (most_told_one (steps_of c.args.bodies.now.steps.items)) i) (ap most_told c.group_step.ensures ∙ (rw c.deref-2.ensures.value at c.in_ok-body.ensures.told))

pub returns-in_err-body-clause-blames : goal.returns-in_err-body-clause-blames
returns-in_err-body-clause-blames c =
    let k = callees_of c.args.k.now in
    let m = places_of c.args.places.now in
    let n = places_of c.masked.new.places in
    let places : n ≡ with_params m (map param_in c.args.a.now.params.items) = rw c.deref.ensures.value at c.in_ok-masked.ensures.places in
    at_exit _ c.from_residual-in_err-body.ensures
    (λ u. body_unknown k (bare_of c.bare-bare.result) m n (action_in c.args.a.now) c.bare-bare.ensures places
    (subst (λ xs. steps_behind_all (known_calls (bare_of c.bare-bare.result)) (stmts_of xs) n ≡ None) c.deref-2.ensures.value (c.in_err-body.ensures.blames u)))
