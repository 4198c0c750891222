use Rattle.std.proofs.Common.{◌≡◌, ◌≤◌, ◌*◌, length, map, drop}
use Rattle.slot_terms.specs.States.{state_of}
use Rattle.slot_places.specs.HeaderSlots.{header_slots_of}
use Rattle.slot_parsers.specs.ParserCodes.{steps_done}
use Rattle.slot_parsers.specs.Code.{step_of, reading_at}
use Rattle.slot_parsers.proofs.steps.do_steps.Given as goal

abbrev pub invariant-loop-c : goal.invariant-loop-c
invariant-loop-c l = record {
  done : steps_done (map header_slots_of l.headers) (map step_of (drop l.c-index l.steps)) (reading_at (state_of l.s) l.frame l.here) ≡ steps_done (map header_slots_of l.headers) (map step_of l.steps) (reading_at (state_of l.initial.s) l.frame l.at);
  within : l.here ≤ 8 * length l.frame;
}
