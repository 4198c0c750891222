use Rattle.std.proofs.Common.{◌≡◌, ◌+◌, take, drop}
use Rattle.p4_tree.specs.View.{stmts_of}
use Rattle.p4_meaning.specs.DigestBound.{most_applied, most_named, most_of}
use Rattle.slot_terms.specs.Places.{places_of, IsLaid}
use Rattle.slot_statements.specs.Runs.{Grows}
use Rattle.slot_controls.specs.Steps.{steps_of, most_told_all}
use Rattle.slot_controls.specs.StepRuns.{DoAllSteps, Widens}
use Rattle.slot_control_codes.specs.Known.{known_calls, steps_behind_all}
use Rattle.slot_control_codes.proofs.statements.+steps.Given as goal

abbrev pub invariant-stmts_steps-loop-s : goal.invariant-stmts_steps-loop-s
invariant-stmts_steps-loop-s g l = record {
  laid : IsLaid (places_of l.places);
  grows : Grows (places_of l.fn.places) (places_of l.places);
  widens : Widens (places_of l.fn.places) (places_of l.places);
  known : steps_behind_all (known_calls (g.K.CallSteps.callees l.k)) (stmts_of (drop l.s-index l.list)) (places_of l.places) ≡ steps_behind_all (known_calls (g.K.CallSteps.callees l.k)) (stmts_of l.list) (places_of l.fn.places);
  told : most_told_all (steps_of l.steps.items) + most_of (most_named (g.K.CallSteps.callees l.k).actions) (most_applied (g.K.CallSteps.callees l.k).actions (g.K.CallSteps.callees l.k).tables) (stmts_of (drop l.s-index l.list)) ≡ most_of (most_named (g.K.CallSteps.callees l.k).actions) (most_applied (g.K.CallSteps.callees l.k).actions (g.K.CallSteps.callees l.k).tables) (stmts_of l.list);
  do_all : DoAllSteps (g.K.CallSteps.callees l.k) (places_of l.fn.places) (places_of l.places) (steps_of l.steps.items) (stmts_of (take l.s-index l.list));
}
