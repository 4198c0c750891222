use Rattle.std.proofs.Common.{map}
use Rattle.p4_tree.specs.View.{expr_of}
use Rattle.slot_terms.specs.Places.{places_of}
use Rattle.slot_terms.specs.Typed.{typed_of}
use Rattle.slot_controls.specs.Steps.{step_of}
use Rattle.slot_control_codes.proofs.MadeLemmas.{tell_made}
use Rattle.slot_control_codes.proofs.externs.tell_step.Goals as goal

pub returns-clause-does : goal.returns-clause-does
returns-clause-does g c = tell_made (g.K.CallSteps.callees c.args.k.now) (places_of c.args.places.now) c.args.receiver (map expr_of c.args.values.now) (map typed_of c.in_ok-values.values.items) (step_of c.tell_node.result) c.in_ok-values.ensures.mean c.tell_node.ensures
