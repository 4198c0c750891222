use Rattle.std.proofs.Common.{◌≡◌, map, take}
use Rattle.p4_tree.specs.View.{arg_of}
use Rattle.p4_resolved.specs.Scopes.{roots_in}
use Rattle.linked_programs.specs.Rewritten.{arg_with}
use Rattle.linked_trees.proofs.statements.args_with.Given as goal

abbrev pub invariant-loop-a : goal.invariant-loop-a
invariant-loop-a l = map arg_of l.copies.items ≡ map (arg_with (roots_in l.roots)) (map arg_of (take l.a-index l.list))
