use Rattle.std.proofs.Common.{sym, subst}
use Rattle.p4_meaning.specs.Statements.{drops}
use Rattle.slot_terms.specs.Places.{places_of}
use Rattle.slot_statements.specs.Codes.{code_of}
use Rattle.slot_controls.specs.StepRuns.{DoesAct}
use Rattle.slot_controls.proofs.DropLemmas.{drops_does}
use Rattle.slot_control_codes.proofs.acts.drop_step.Goals as goal

pub returns-clause-does : goal.returns-clause-does
returns-clause-does g c =
    subst (λ z. DoesAct (g.K.CallSteps.callees c.args.k.now) (places_of c.args.places.now) z drops) (sym c.plain_step.ensures)
    (drops_does (g.K.CallSteps.callees c.args.k.now) (places_of c.args.places.now) (code_of c.in_ok-c.c) c.in_ok-c.ensures.does)
