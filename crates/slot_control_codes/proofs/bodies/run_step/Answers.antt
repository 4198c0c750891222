use Rattle.std.proofs.Common.{◌≡◌, map, sym, ap, ◌∙◌, subst}
use Rattle.p4_tree.specs.View.{arg_of, expr_of}
use Rattle.p4_meaning.specs.Statements.{values_in}
use Rattle.p4_parts.specs.PartsIn.{action_in}
use Rattle.slot_terms.specs.Places.{places_of}
use Rattle.slot_controls.specs.Steps.{step_of}
use Rattle.slot_control_codes.specs.Callees.{callees_of}
use Rattle.slot_control_codes.specs.Found.{IsCallOf}
use Rattle.slot_control_codes.proofs.MadeLemmas.{run_made, run_none}
use Rattle.slot_control_codes.proofs.bodies.run_step.Goals as goal

pub returns-in_ok-c-in-Some-clause-does : goal.returns-in_ok-c-in-Some-clause-does
returns-in_ok-c-in-Some-clause-does c =
    let same : map expr_of c.deref.result.now ≡ values_in (map arg_of c.args.args.now) = ap (map expr_of) c.deref.ensures.value ∙ c.in_ok-values-in-Some.ensures in
    run_made (callees_of c.args.k.now) (places_of c.args.places.now) c.args.x.now (values_in (map arg_of c.args.args.now)) (action_in c.in-Some.a.now) (step_of c.in_ok-c-in-Some.c) (sym c.in-Some.ensures)
    (subst (λ es. IsCallOf (callees_of c.args.k.now) (places_of c.args.places.now) (action_in c.in-Some.a.now) es (step_of c.in_ok-c-in-Some.c)) same c.in_ok-c-in-Some.ensures.is)

pub returns-in-None-clause-does : goal.returns-in-None-clause-does
returns-in-None-clause-does c = run_none (callees_of c.args.k.now) (places_of c.args.places.now) c.args.x.now (values_in (map arg_of c.args.args.now)) (step_of c.skip_step.result) (sym c.in-None.ensures) c.skip_step.ensures
