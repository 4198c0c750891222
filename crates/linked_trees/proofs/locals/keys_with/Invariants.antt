use Rattle.std.proofs.Common.{◌≡◌, map, take}
use Rattle.p4_tree.specs.View.{key_of}
use Rattle.p4_resolved.specs.Scopes.{roots_in}
use Rattle.linked_programs.specs.Rewritten.{key_with}
use Rattle.linked_trees.proofs.locals.keys_with.Given as goal

abbrev pub invariant-loop-key : goal.invariant-loop-key
invariant-loop-key l = map key_of l.copies.items ≡ map (key_with (roots_in l.roots)) (map key_of (take l.key-index l.keys))
