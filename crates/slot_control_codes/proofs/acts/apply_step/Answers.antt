use Rattle.std.proofs.Common.{subst}
use Rattle.std.specs.Option.{option_map}
use Rattle.slot_terms.specs.Places.{places_of}
use Rattle.slot_controls.specs.Steps.{application_of, step_of, steps_of}
use Rattle.slot_controls.specs.StepRuns.{Applies}
use Rattle.slot_control_codes.specs.Callees.{applied_of}
use Rattle.slot_control_codes.proofs.MadeLemmas.{apply_made, apply_none}
use Rattle.slot_control_codes.proofs.acts.apply_step.Goals as goal

pub returns-in-None-clause-does : goal.returns-in-None-clause-does
returns-in-None-clause-does g c =
    apply_none (g.K.CallSteps.callees c.args.k.now) (places_of c.args.places.now) c.args.x.now (step_of c.skip_step.result)
    (subst (λ o. Applies (g.K.CallSteps.callees c.args.k.now) (places_of c.args.places.now) c.args.x.now (option_map applied_of o)) c.in-None.is c.in_ok-application.ensures.applies) c.skip_step.ensures

pub returns-in_ok-c-in-Some-clause-does : goal.returns-in_ok-c-in-Some-clause-does
returns-in_ok-c-in-Some-clause-does g c =
    apply_made (g.K.CallSteps.callees c.args.k.now) (places_of c.args.places.now) c.args.x.now (steps_of c.in-Some.a.bodies.items) (application_of c.in-Some.a.application) (step_of c.skip_step-in-Some.result) (step_of c.skip_step-in-Some-2.result) (step_of c.in_ok-c-in-Some.c)
    (subst (λ o. Applies (g.K.CallSteps.callees c.args.k.now) (places_of c.args.places.now) c.args.x.now (option_map applied_of o)) c.in-Some.is c.in_ok-application.ensures.applies)
    c.skip_step-in-Some.ensures c.skip_step-in-Some-2.ensures c.in_ok-c-in-Some.ensures
