use Rattle.std.proofs.Common.{ap, ◌∙◌}
use Rattle.p4_tree.specs.View.{expr_of}
use Rattle.slot_terms.specs.Places.{places_of}
use Rattle.slot_terms.specs.Typed.{typed_of}
use Rattle.slot_controls.specs.Steps.{step_of}
use Rattle.slot_controls.specs.Callees.{register_number, register_width}
use Rattle.slot_control_codes.proofs.MadeLemmas.{write_made}
use Rattle.slot_control_codes.proofs.externs.write_step.Goals as goal

pub returns-clause-does : goal.returns-clause-does
returns-clause-does g c =
    write_made (g.K.CallSteps.callees c.args.k.now) (places_of c.args.places.now) c.args.x.now (expr_of c.args.index.now) (expr_of c.args.value.now) (typed_of c.in_ok-index.index) (typed_of c.in_ok-value.value) c.in_ok-register.register c.register_width-width.result (step_of c.write_node.result)
    c.in_ok-index.ensures.means (c.register_width-width.ensures ∙ ap (λ rs. register_width rs c.args.x.now) c.registers-all.ensures) c.in_ok-value.ensures.means (c.in_ok-register.ensures ∙ ap (λ rs. register_number rs c.args.x.now) c.registers-all.ensures) c.write_node.ensures
