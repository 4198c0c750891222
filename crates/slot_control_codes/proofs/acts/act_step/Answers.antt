use Rattle.std.proofs.Common.{sym, ap, ◌∙◌, subst}
use Rattle.std.specs.Prelude.{IfOk}
use Rattle.slot_terms.specs.Places.{places_of}
use Rattle.slot_controls.specs.Steps.{step_of}
use Rattle.slot_controls.specs.StepRuns.{DoesAct}
use Rattle.slot_control_codes.specs.declared.calls.Act.TheVariants as act
use Rattle.slot_control_codes.specs.Acts.{act_in}
use Rattle.slot_control_codes.proofs.acts.act_step.Goals as goal

pub returns-in-Make-clause-does : goal.returns-in-Make-clause-does
returns-in-Make-clause-does g c = subst (λ a. IfOk c.validity_step.result (λ z. DoesAct (g.K.CallSteps.callees c.args.k.now) (places_of c.args.places.now) (step_of z) (act_in a))) (sym c.in-Make.is) c.validity_step.ensures.does

pub returns-in-Drop-clause-does : goal.returns-in-Drop-clause-does
returns-in-Drop-clause-does g c = subst (λ a. IfOk c.drop_step.result (λ z. DoesAct (g.K.CallSteps.callees c.args.k.now) (places_of c.args.places.now) (step_of z) (act_in a))) (sym c.in-Drop.is) c.drop_step.ensures.does

pub returns-in-Read-clause-does : goal.returns-in-Read-clause-does
returns-in-Read-clause-does g c = subst (λ a. IfOk c.read_step.result (λ z. DoesAct (g.K.CallSteps.callees c.args.k.now) (places_of c.args.places.now) (step_of z) (act_in a))) (sym c.in-Read.is) c.read_step.ensures.does

pub returns-in-Write-clause-does : goal.returns-in-Write-clause-does
returns-in-Write-clause-does g c = subst (λ a. IfOk c.write_step.result (λ z. DoesAct (g.K.CallSteps.callees c.args.k.now) (places_of c.args.places.now) (step_of z) (act_in a))) (sym c.in-Write.is) c.write_step.ensures.does

pub returns-in-Tell-clause-does : goal.returns-in-Tell-clause-does
returns-in-Tell-clause-does g c = subst (λ a. IfOk c.tell_step.result (λ z. DoesAct (g.K.CallSteps.callees c.args.k.now) (places_of c.args.places.now) (step_of z) (act_in a))) (sym c.in-Tell.is) c.tell_step.ensures.does

pub returns-in-Run-clause-does : goal.returns-in-Run-clause-does
returns-in-Run-clause-does g c = subst (λ a. IfOk c.run.result (λ z. DoesAct (g.K.CallSteps.callees c.args.k.now) (places_of c.args.places.now) (step_of z) (act_in a))) (sym c.in-Run.is) c.run.ensures.does

pub returns-then-verifies-clause-does : goal.returns-then-verifies-clause-does
returns-then-verifies-clause-does g c = subst (λ a. IfOk c.verify_step.result (λ z. DoesAct (g.K.CallSteps.callees c.args.k.now) (places_of c.args.places.now) (step_of z) (act_in a))) (sym (c.in-Sum.is ∙ ap (λ b. act.Sum b c.in-Sum.condition c.in-Sum.list c.in-Sum.field) c.if-verifies.true)) c.verify_step.ensures.does

pub returns-else-verifies-clause-does : goal.returns-else-verifies-clause-does
returns-else-verifies-clause-does g c = subst (λ a. IfOk c.update_step.result (λ z. DoesAct (g.K.CallSteps.callees c.args.k.now) (places_of c.args.places.now) (step_of z) (act_in a))) (sym (c.in-Sum.is ∙ ap (λ b. act.Sum b c.in-Sum.condition c.in-Sum.list c.in-Sum.field) c.if-verifies.false)) c.update_step.ensures.does

pub returns-in-Idle-clause-does : goal.returns-in-Idle-clause-does
returns-in-Idle-clause-does g c = subst (λ a. DoesAct (g.K.CallSteps.callees c.args.k.now) (places_of c.args.places.now) (step_of c.idle_step.result) (act_in a)) (sym c.in-Idle.is) c.idle_step.ensures.does
