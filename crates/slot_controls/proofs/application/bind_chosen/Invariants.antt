use Rattle.std.proofs.Common.{◌≡◌, ◌+◌, map, drop}
use Rattle.slot_terms.specs.States.{state_of}
use Rattle.slot_controls.specs.Steps.{action_slots_of, bound_for, position}
use Rattle.slot_controls.proofs.application.bind_chosen.Given as goal

abbrev pub invariant-loop-i : goal.invariant-loop-i
invariant-loop-i l = record {
  at : l.i + position (map action_slots_of (drop l.i l.actions)) l.number ≡ position (map action_slots_of l.actions) l.number;
  bound : bound_for (map action_slots_of (drop l.i l.actions)) l.number l.words (state_of l.s) ≡ bound_for (map action_slots_of l.actions) l.number l.words (state_of l.fn.s);
}
