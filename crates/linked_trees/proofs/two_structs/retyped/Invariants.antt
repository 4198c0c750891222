use Rattle.std.proofs.Common.{◌≡◌, take}
use Rattle.parted_programs.specs.Parted.{retyped}
use Rattle.linked_trees.proofs.two_structs.retyped.Given as goal

abbrev pub invariant-loop-q : goal.invariant-loop-q
invariant-loop-q l = l.all.items ≡ retyped l.at (take l.q-index l.params)
