use Rattle.std.proofs.Common.{sym, ap, ◌∙◌}
use Rattle.p4_tree.specs.View.{expr_of}
use Rattle.slot_terms.specs.Places.{places_of}
use Rattle.slot_terms.specs.Typed.{typed_of}
use Rattle.slot_controls.specs.Steps.{step_of, target_of}
use Rattle.slot_controls.specs.Callees.{register_number}
use Rattle.slot_control_codes.proofs.MadeLemmas.{read_made, read_nowhere}
use Rattle.slot_control_codes.proofs.externs.read_step.Goals as goal

pub returns-in_ok-register-clause-does : goal.returns-in_ok-register-clause-does
returns-in_ok-register-clause-does g c =
    read_made (g.K.CallSteps.callees c.args.k.now) (places_of c.args.places.now) c.args.x.now c.args.target.now (expr_of c.args.index.now) (typed_of c.in_ok-index.index) (target_of c.in_ok-target.target) c.in_ok-register.register (step_of c.read_node.result)
    c.requires (sym c.if-is_assignable.ensures) c.in_ok-target.ensures.at c.in_ok-index.ensures.means (c.in_ok-register.ensures ∙ ap (λ rs. register_number rs c.args.x.now) c.registers-all.ensures) c.read_node.ensures

pub returns-else-is_assignable-clause-does : goal.returns-else-is_assignable-clause-does
returns-else-is_assignable-clause-does g c = read_nowhere (g.K.CallSteps.callees c.args.k.now) (places_of c.args.places.now) c.args.x.now c.args.target.now (expr_of c.args.index.now) (step_of c.skip_step.result) (sym c.if-is_assignable.ensures) c.skip_step.ensures
