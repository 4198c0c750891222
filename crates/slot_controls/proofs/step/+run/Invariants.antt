use Rattle.std.proofs.Common.{◌≡◌, ◌+◌, ◌≤◌, length, drop}
use Rattle.std.specs.Prelude.{vec_len, vec_capacity}
use Rattle.slot_controls.specs.Steps.{slot_run, step_of, steps_of, run_all, run_nth, most_told_all, most_told_one, HaveFewKeys}
use Rattle.slot_controls.proofs.SizeLemmas.{size_of, size_of_all}
use Rattle.slot_controls.proofs.step.+run.Given as goal

abbrev pub decreases-run_step : goal.decreases-run_step
decreases-run_step g l = size_of (step_of l.step.now)

abbrev pub decreases-run_steps : goal.decreases-run_steps
decreases-run_steps g l = size_of_all (steps_of l.list.now)

abbrev pub decreases-run_nth : goal.decreases-run_nth
decreases-run_nth g l = size_of_all (steps_of l.list.now)

abbrev pub invariant-run_steps-loop-step : goal.invariant-run_steps-loop-step
invariant-run_steps-loop-step g l = record {
  few : HaveFewKeys (length l.buffer) (steps_of (drop l.step-index l.list));
  small : size_of_all (steps_of (drop l.step-index l.list)) ≤ size_of_all (steps_of l.list);
  does : run_all (g.T.NumberedTables.chosen l.tables) (steps_of (drop l.step-index l.list)) (slot_run l.s l.x) ≡ run_all (g.T.NumberedTables.chosen l.tables) (steps_of l.list) (slot_run l.fn.s l.fn.x);
  room : vec_capacity l.x.digests ≡ vec_capacity l.fn.x.digests;
  told : vec_len l.x.digests + most_told_all (steps_of (drop l.step-index l.list)) ≤ vec_len l.fn.x.digests + most_told_all (steps_of l.list);
}

abbrev pub invariant-run_nth-loop-step : goal.invariant-run_nth-loop-step
invariant-run_nth-loop-step g l = record {
  few : HaveFewKeys (length l.buffer) (steps_of (drop l.step-index l.list));
  small : size_of_all (steps_of (drop l.step-index l.list)) ≤ size_of_all (steps_of l.list);
  does : run_nth (g.T.NumberedTables.chosen l.tables) (steps_of (drop l.step-index l.list)) l.before (slot_run l.s l.x) ≡ run_nth (g.T.NumberedTables.chosen l.tables) (steps_of l.list) l.fn.at (slot_run l.fn.s l.fn.x);
  told : most_told_one (steps_of (drop l.step-index l.list)) ≤ most_told_one (steps_of l.list);
  count : vec_len l.x.digests ≡ vec_len l.fn.x.digests;
  room : vec_capacity l.x.digests ≡ vec_capacity l.fn.x.digests;
}
