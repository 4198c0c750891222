use Rattle.std.proofs.Common.{◌≡◌, map, take}
use Rattle.p4_tree.specs.View.{stmt_of}
use Rattle.p4_resolved.specs.Scopes.{roots_in}
use Rattle.linked_programs.specs.Rewritten.{parse_with}
use Rattle.linked_trees.proofs.parsers.body_with.Given as goal

abbrev pub invariant-loop-s : goal.invariant-loop-s
invariant-loop-s l = map stmt_of l.copies.items ≡ map (parse_with (roots_in l.roots)) (map stmt_of (take l.s-index l.list))
