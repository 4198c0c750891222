use Rattle.std.proofs.Common.{map}
use Rattle.p4_tree.specs.View.{expr_of}
use Rattle.slot_terms.specs.Places.{places_of}
use Rattle.slot_terms.specs.Typed.{typed_of}
use Rattle.slot_controls.specs.Steps.{step_of}
use Rattle.slot_control_codes.proofs.MadeLemmas.{verify_made}
use Rattle.slot_control_codes.proofs.sums.verify_step.Goals as goal

pub returns-clause-does : goal.returns-clause-does
returns-clause-does g c =
    verify_made (g.K.CallSteps.callees c.args.k.now) (places_of c.args.places.now) (expr_of c.args.condition.now) (map expr_of c.args.list.now) c.args.field.now c.in_ok-error.error (typed_of c.in_ok-test.test) (typed_of c.in_ok-found.found) (map typed_of c.in_ok-values.values.items) (step_of c.in_ok-step.step) (step_of c.verify_node.result)
    c.requires c.in_ok-error.ensures.at c.in_ok-test.ensures.means c.in_ok-values.ensures.mean c.in_ok-found.ensures.means c.verify_node.ensures c.in_ok-step.ensures
