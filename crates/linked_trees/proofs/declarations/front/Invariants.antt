use Rattle.std.proofs.Common.{◌≡◌, ◌∷◌, map, take}
use Rattle.p4_tree.specs.View.{top_of}
use Rattle.linked_programs.specs.Linked.{rejects_top}
use Rattle.linked_trees.proofs.declarations.front.Given as goal

abbrev pub invariant-loop-top : goal.invariant-loop-top
invariant-loop-top l = map top_of l.tops.items ≡ rejects_top ∷ map top_of (take l.top-index l.parts.tops.items)
