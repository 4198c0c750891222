use Rattle.std.proofs.Common.{ℕ, ◌≤◌, take}
use Rattle.slot_controls.specs.Steps.{steps_of, HaveFewKeys}
use Rattle.slot_controls.proofs.room.+keys.Given as goal

abbrev pub invariant-most_keys-loop-step : goal.invariant-most_keys-loop-step
invariant-most_keys-loop-step l = record {
  enough : HaveFewKeys l.most (steps_of (take l.step-index l.list));
  least : (n : ℕ) → HaveFewKeys n (steps_of (take l.step-index l.list)) → l.most ≤ n;
}
