use Rattle.std.proofs.Common.{◌≡◌, map, take}
use Rattle.p4_tree.specs.View.{keyset_of}
use Rattle.p4_resolved.specs.Scopes.{roots_in}
use Rattle.linked_programs.specs.Rewritten.{keyset_with}
use Rattle.linked_trees.proofs.parsers.keysets_with.Given as goal

abbrev pub invariant-loop-k : goal.invariant-loop-k
invariant-loop-k l = map keyset_of l.copies.items ≡ map (keyset_with (roots_in l.roots)) (map keyset_of (take l.k-index l.list))
