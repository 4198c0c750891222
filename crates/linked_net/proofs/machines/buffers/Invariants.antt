use Rattle.std.proofs.Common.{map, take}
use Rattle.p4_tree.specs.View.{program_of}
use Rattle.linked_net.specs.Switches.{AreMadeFor}
use Rattle.linked_net.proofs.machines.buffers.Given as goal

-- there is one for each of the first programs
abbrev pub invariant-loop-program : goal.invariant-loop-program
invariant-loop-program l = AreMadeFor (map program_of (take l.program-index l.programs)) l.bufs.items
