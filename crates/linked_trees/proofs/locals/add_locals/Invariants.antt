use Rattle.std.proofs.Common.{◌≡◌, ◌++◌, map, take}
use Rattle.p4_tree.specs.View.{local_of}
use Rattle.p4_resolved.specs.Scopes.{roots_in}
use Rattle.linked_programs.specs.Rewritten.{local_with}
use Rattle.linked_trees.proofs.locals.add_locals.Given as goal

abbrev pub invariant-loop-l : goal.invariant-loop-l
invariant-loop-l l = map local_of l.all.items ≡ map local_of l.initial.all.items ++ map (local_with (roots_in l.roots)) (map local_of (take l.l-index l.list))
