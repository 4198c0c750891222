use Rattle.std.proofs.Common.{map, sym}
use Rattle.p4_tree.specs.View.{expr_of}
use Rattle.slot_terms.specs.Places.{places_of}
use Rattle.slot_terms.specs.Typed.{typed_of}
use Rattle.slot_controls.specs.Steps.{step_of, target_of}
use Rattle.slot_control_codes.proofs.MadeLemmas.{update_made, update_nowhere}
use Rattle.slot_control_codes.proofs.sums.update_step.Goals as goal

pub returns-in_ok-step-clause-does : goal.returns-in_ok-step-clause-does
returns-in_ok-step-clause-does g c =
    update_made (g.K.CallSteps.callees c.args.k.now) (places_of c.args.places.now) (expr_of c.args.condition.now) (map expr_of c.args.list.now) c.args.field.now (target_of c.in_ok-target.target) (typed_of c.in_ok-test.test) (map typed_of c.in_ok-values.values.items) (step_of c.in_ok-step.step) (step_of c.update_node.result)
    c.requires (sym c.if-is_assignable.ensures) c.in_ok-target.ensures.at c.in_ok-test.ensures.means c.in_ok-values.ensures.mean c.update_node.ensures c.in_ok-step.ensures

pub returns-else-is_assignable-clause-does : goal.returns-else-is_assignable-clause-does
returns-else-is_assignable-clause-does g c = update_nowhere (g.K.CallSteps.callees c.args.k.now) (places_of c.args.places.now) (expr_of c.args.condition.now) (map expr_of c.args.list.now) c.args.field.now (step_of c.skip_step.result) (sym c.if-is_assignable.ensures) c.skip_step.ensures
