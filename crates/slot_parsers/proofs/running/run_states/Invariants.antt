use Rattle.std.proofs.Common.{◌≡◌, ◌+◌, ◌-◌, ◌*◌, ◌≤◌, length, map}
use Rattle.slot_terms.specs.States.{state_of}
use Rattle.slot_places.specs.HeaderSlots.{header_slots_of}
use Rattle.slot_parsers.specs.ParserCodes.{turns}
use Rattle.slot_parsers.specs.Code.{state_in, reading_at}
use Rattle.slot_parsers.proofs.running.run_states.Given as goal

abbrev pub invariant-loop-i : goal.invariant-loop-i
invariant-loop-i l = record {
  rest : turns (map header_slots_of l.headers) (map state_in l.states) (length l.states + 1 - l.i) l.passed l.next (reading_at (state_of l.s) l.frame l.at) ≡ turns (map header_slots_of l.headers) (map state_in l.states) (length l.states + 1) l.fn.passed l.fn.start (reading_at (state_of l.fn.s) l.frame 0);
  within : l.at ≤ 8 * length l.frame;
}
