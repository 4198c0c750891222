use Rattle.std.proofs.Common.{◌≤◌, ℕ, length, map, take, sym, ap, ◌∙◌, subst, arith}
use Rattle.slot_statements.proofs.TreeLemmas.{one_more}
use Rattle.slot_controls.specs.Steps.{applies, application_of, step_of, steps_of, steps_from, HasFewKeys, HaveFewKeys}
use Rattle.slot_controls.proofs.KeyLemmas.{application_few, both_few, most_more, least_more}
use Rattle.slot_controls.proofs.StepLemmas.{step_of-If, step_of-Apply}
use Rattle.slot_controls.proofs.room.+keys.Goals as goal

pub most_keys-loop-step-preserved : goal.most_keys-loop-step-preserved
most_keys-loop-step-preserved t c = record {
  enough =
      subst (λ xs. HaveFewKeys c.greater-most.result (steps_from xs)) (sym (one_more step_of c.args.list.now c.loop-step.step-index c.step-item.result c.loop-step-test.true c.step-item.is))
      (most_more c.loop-step.most c.step_keys.result c.greater-most.result (map step_of (take c.loop-step.step-index c.args.list.now)) (step_of c.step-item.result) c.greater-most.ensures.left c.greater-most.ensures.right c.loop-step.invariant.enough c.step_keys.ensures.enough);
  least =
      subst (λ xs. (n : ℕ) → HaveFewKeys n (steps_from xs) → c.greater-most.result ≤ n) (sym (one_more step_of c.args.list.now c.loop-step.step-index c.step-item.result c.loop-step-test.true c.step-item.is))
      (least_more c.loop-step.most c.step_keys.result c.greater-most.result (map step_of (take c.loop-step.step-index c.args.list.now)) (step_of c.step-item.result) c.loop-step.invariant.least c.step_keys.ensures.least c.greater-most.ensures.least);
}

pub step_keys-returns-in-If-clause-enough : goal.step_keys-returns-in-If-clause-enough
step_keys-returns-in-If-clause-enough t c =
    subst (HasFewKeys c.greater.result) (sym (ap step_of c.in-If.is ∙ step_of-If c.in-If.field-0 c.in-If.a c.in-If.b))
    (both_few c.step_keys.result c.step_keys-in-If.result c.greater.result (step_of c.in-If.a.value) (step_of c.in-If.b.value) c.greater.ensures.left c.greater.ensures.right
    (rw c.deref-in-If.ensures at c.step_keys.ensures.enough) (rw c.deref-in-If-2.ensures at c.step_keys-in-If.ensures.enough))

pub step_keys-returns-in-Apply-clause-enough : goal.step_keys-returns-in-Apply-clause-enough
step_keys-returns-in-Apply-clause-enough t c =
    let x = c.in-Apply in
    let keys : length (application_of x.x).keys ≤ c.key_count.result = omega (arith, c.key_count.ensures) in
    subst (HasFewKeys c.greater-in-Apply-2.result) (sym (ap step_of x.is ∙ step_of-Apply x.bodies x.x x.field-2 x.a x.b))
    (application_few c.key_count.result c.most_keys-in-Apply.result c.greater-in-Apply.result c.step_keys-in-Apply.result c.step_keys-in-Apply-2.result c.greater-branches.result c.greater-in-Apply-2.result
    (steps_of x.bodies.items) (application_of x.x) x.field-2 (step_of x.a.value) (step_of x.b.value)
    c.greater-in-Apply.ensures.left c.greater-in-Apply.ensures.right c.greater-branches.ensures.left c.greater-branches.ensures.right c.greater-in-Apply-2.ensures.left c.greater-in-Apply-2.ensures.right
    keys (rw c.deref-in-Apply-3.ensures.value at c.most_keys-in-Apply.ensures.enough) (rw c.deref-in-Apply.ensures at c.step_keys-in-Apply.ensures.enough) (rw c.deref-in-Apply-2.ensures at c.step_keys-in-Apply-2.ensures.enough))

pub step_keys-returns-in-Apply-clause-least : goal.step_keys-returns-in-Apply-clause-least
step_keys-returns-in-Apply-clause-least t c n few =
    let x = c.in-Apply in
    let all : HasFewKeys n (applies (steps_of x.bodies.items) (application_of x.x) x.field-2 (step_of x.a.value) (step_of x.b.value)) = subst (HasFewKeys n) (ap step_of x.is ∙ step_of-Apply x.bodies x.x x.field-2 x.a x.b) few in
    c.greater-in-Apply-2.ensures.least n
    (c.greater-in-Apply.ensures.least n (let z = all.0 in omega (arith, z, c.key_count.ensures)) ((rw c.deref-in-Apply-3.ensures.value at c.most_keys-in-Apply.ensures.least) n all.1))
    (c.greater-branches.ensures.least n ((rw c.deref-in-Apply.ensures at c.step_keys-in-Apply.ensures.least) n all.2) ((rw c.deref-in-Apply-2.ensures at c.step_keys-in-Apply-2.ensures.least) n all.3))
