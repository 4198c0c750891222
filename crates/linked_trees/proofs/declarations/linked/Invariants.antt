use Rattle.std.proofs.Common.{◌≡◌, ◌++◌, map, take}
use Rattle.p4_tree.specs.View.{program_of, top_of}
use Rattle.linked_programs.specs.Linked.{front, linked_top}
use Rattle.linked_trees.specs.View.{lowered_of}
use Rattle.linked_trees.proofs.declarations.linked.Given as goal

abbrev pub invariant-loop-top : goal.invariant-loop-top
invariant-loop-top l =
    map top_of l.tops.items
    ≡ front (lowered_of l.parts) l.switch
    ++ map (linked_top (lowered_of l.parts) l.size l.linked_ports (program_of l.program)) (map top_of (take l.top-index l.program.tops.items))
