use Rattle.std.proofs.Common.{◌≡◌, ◌-◌, ◌*◌, ◌≤◌, length, map}
use Rattle.p4_tree.specs.View.{state_of}
use Rattle.p4_meaning.specs.Parsing.{turns_of}
use Rattle.p4_parts.specs.Headers.{header_in}
use Rattle.p4_packets.specs.Left.{states_in}
use Rattle.p4_packets.specs.Places.{reading_of}
use Rattle.p4_packets.proofs.states.run_states.Given as goal

abbrev pub invariant-loop-i : goal.invariant-loop-i
invariant-loop-i l = record { rest : turns_of (l.fn.turns - l.i) (map header_in l.headers) (states_in l.left.items) l.name (reading_of l.s l.frame l.at) ≡ turns_of l.fn.turns (map header_in l.headers) (map state_of l.states) l.fn.start (reading_of l.fn.s l.frame 0); within : l.at ≤ 8 * length l.frame }
