use Rattle.std.proofs.Common.{◌≡◌, ◌+◌, drop}
use Rattle.std.specs.Prelude.{max}
use Rattle.slot_controls.specs.Steps.{steps_of, most_told_all, most_told_one}
use Rattle.slot_controls.proofs.room.+digests.Given as goal

abbrev pub invariant-most_digests-loop-step : goal.invariant-most_digests-loop-step
invariant-most_digests-loop-step l = l.most + most_told_all (steps_of (drop l.step-index l.list)) ≡ most_told_all (steps_of l.list)

abbrev pub invariant-most_of_one-loop-step : goal.invariant-most_of_one-loop-step
invariant-most_of_one-loop-step l = max l.most (most_told_one (steps_of (drop l.step-index l.list))) ≡ most_told_one (steps_of l.list)
