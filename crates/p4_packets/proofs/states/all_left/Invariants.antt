use Rattle.std.proofs.Common.{◌≡◌, take, map}
use Rattle.p4_tree.specs.View.{state_of}
use Rattle.p4_packets.specs.Left.{states_in}
use Rattle.p4_packets.proofs.states.all_left.Given as goal

abbrev pub invariant-loop-st : goal.invariant-loop-st
invariant-loop-st l = states_in l.left.items ≡ map state_of (take l.st-index l.states)
