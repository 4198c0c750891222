-- Steps node by node.
use Rattle.std.proofs.Common.{◌≡◌, Bool, sym, ap, ◌∙◌}
use Rattle.std.specs.Global.{Box, Vec}
use Rattle.slot_terms.specs.declared.term.Term as code_term
use Rattle.slot_terms.specs.Terms.{term_of}
use Rattle.slot_controls.specs.declared.application.Application as code_application
use Rattle.slot_controls.specs.declared.step.Step as code_step
use Rattle.slot_controls.specs.declared.step.Step.TheVariants as step
use Rattle.slot_controls.specs.declared.step.Step.TheOpen as layer
use Rattle.slot_controls.specs.Steps.{Step, branch, applies, application_of, step_of, steps_of, step_layer}

pub step_of-If : (t : code_term.Term) (a b : Box code_step.Step) → step_of (step.If t a b) ≡ branch (term_of t) (step_of a.value) (step_of b.value)
step_of-If t a b = ap step_of (sym (step.rolls-If t a b)) ∙ code_step.fold-roll-Step Step step_layer (layer.If t a b)

pub step_of-Apply : (cs : Vec code_step.Step) (x : code_application.Application) (asked : Bool) (a b : Box code_step.Step) → step_of (step.Apply cs x asked a b) ≡ applies (steps_of cs.items) (application_of x) asked (step_of a.value) (step_of b.value)
step_of-Apply cs x asked a b = ap step_of (sym (step.rolls-Apply cs x asked a b)) ∙ code_step.fold-roll-Step Step step_layer (layer.Apply cs x asked a b)
