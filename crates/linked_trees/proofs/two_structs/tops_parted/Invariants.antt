use Rattle.std.proofs.Common.{◌≡◌, ◌∷◌, [], map, take}
use Rattle.p4_tree.specs.Tree.{struct_type}
use Rattle.p4_tree.specs.View.{top_of}
use Rattle.parted_programs.specs.Parted.{new_metadata, top_parted}
use Rattle.linked_trees.proofs.two_structs.tops_parted.Given as goal

abbrev pub invariant-loop-top : goal.invariant-loop-top
invariant-loop-top l = map top_of l.tops.items ≡ struct_type 0 new_metadata [] ∷ map (top_parted l.main) (map top_of (take l.top-index l.list))
