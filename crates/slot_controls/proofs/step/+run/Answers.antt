use Rattle.std.proofs.Common.{rules, ◌≡◌, ◌+◌, ◌≤◌, length, map, ap, ◌∙◌, subst, arith}
use Rattle.std.specs.Prelude.{vec_len, vec_capacity}
use Rattle.slot_controls.specs.Steps.{Step, application_of, applies, step_of, steps_from, steps_of, HasFewKeys, most_told, most_told_one}
use Rattle.slot_controls.proofs.StepLemmas.{step_of-Apply}
use Rattle.slot_controls.proofs.SizeLemmas.{size_of, size_of_all}
use Rattle.slot_controls.proofs.step.+run.Goals as goal

pub run_step-run_nth-requires : goal.run_step-run_nth-requires
run_step-run_nth-requires g t c κs within =
    let x = c.in-Apply in
    let is : step_of c.args.step.now ≡ applies (steps_of x.bodies.items) (application_of x.application) x.asked (step_of x.a.value) (step_of x.b.value) = ap step_of x.is ∙ step_of-Apply x.bodies x.application x.asked x.a x.b in
    let few = subst (HasFewKeys (length c.args.buffer.now)) is c.requires.few in
    let room = subst (λ (z : Step). vec_len c.args.x.now.digests + most_told z ≤ vec_capacity c.args.x.now.digests) is c.requires.room in
    let size = ap size_of is in
    let lent = c.deref-in-Apply-2.ensures.value in
    let same : size_of_all (steps_of c.deref-in-Apply-2.result.now) ≡ size_of_all (steps_of x.bodies.items) = ap (λ xs. size_of_all (steps_from (map step_of xs))) lent in
    let told : most_told_one (steps_of c.deref-in-Apply-2.result.now) ≡ most_told_one (steps_of x.bodies.items) = ap (λ xs. most_told_one (steps_from (map step_of xs))) lent in
    (omega (arith, size, same, c.decreases), (search rules, (rw (c.outcome_for-outcome.auto.buffer, lent) few.1, omega (arith, room, told))))
