use Rattle.std.proofs.Common.{◌≡◌, map}
use Rattle.std.specs.List.{range_with_len}
use Rattle.p4_tree.specs.View.{program_of}
use Rattle.linked_trees.specs.View.{lowered_of}
use Rattle.program_linker.specs.Parts.{linked_at}
use Rattle.program_linker.proofs.programs.linked_switches.Given as goal

-- the programs of the switches so far
abbrev pub invariant-loop-switch : goal.invariant-loop-switch
invariant-loop-switch l =
    map program_of l.programs.items ≡ map (linked_at (lowered_of l.parts) l.size l.net (program_of l.program)) (range_with_len 0 l.switch)
