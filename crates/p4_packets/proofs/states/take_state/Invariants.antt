use Rattle.std.proofs.Common.{◌≡◌, take, drop}
use Rattle.p4_meaning.specs.Parsing.{found_state}
use Rattle.p4_packets.specs.Left.{states_in}
use Rattle.p4_packets.proofs.LeftLemmas.{behind}
use Rattle.p4_packets.proofs.states.take_state.Given as goal

abbrev pub invariant-loop-i : goal.invariant-loop-i
invariant-loop-i l = record { same : l.left ≡ l.fn.left; rest : behind (take l.i (states_in l.left.items)) (found_state (drop l.i (states_in l.left.items)) l.name) ≡ found_state (states_in l.left.items) l.name }
