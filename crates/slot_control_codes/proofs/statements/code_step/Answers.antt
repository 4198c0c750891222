use Rattle.std.proofs.Common.{sym, subst}
use Rattle.p4_tree.specs.View.{stmt_of}
use Rattle.slot_terms.specs.Places.{places_of}
use Rattle.slot_statements.specs.Codes.{code_of}
use Rattle.slot_controls.specs.StepRuns.{DoesStep}
use Rattle.slot_controls.proofs.VariableLemmas.{code_widens}
use Rattle.slot_controls.proofs.ActLemmas.{plain_does}
use Rattle.slot_control_codes.proofs.statements.code_step.Goals as goal

pub returns-clause-widens : goal.returns-clause-widens
returns-clause-widens g c = code_widens (stmt_of c.args.s.now) (places_of c.args.places.now) (places_of c.stmt_code.new.places) c.in_ok-c.ensures.known

pub returns-clause-does : goal.returns-clause-does
returns-clause-does g c =
    subst (λ k. DoesStep (g.K.CallSteps.callees c.args.k.now) (places_of c.args.places.now) (places_of c.stmt_code.new.places) k (stmt_of c.args.s.now)) (sym c.plain_step.ensures)
    (plain_does (g.K.CallSteps.callees c.args.k.now) (places_of c.args.places.now) (places_of c.stmt_code.new.places) (code_of c.in_ok-c.c) (stmt_of c.args.s.now) c.in_ok-c.ensures.known c.in_ok-c.ensures.does)
