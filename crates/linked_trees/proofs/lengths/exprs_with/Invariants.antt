use Rattle.std.proofs.Common.{◌≡◌, map, take}
use Rattle.p4_tree.specs.View.{expr_of}
use Rattle.p4_resolved.specs.Scopes.{roots_in}
use Rattle.linked_programs.specs.Rewritten.{expr_with}
use Rattle.linked_trees.proofs.lengths.exprs_with.Given as goal

abbrev pub invariant-loop-e : goal.invariant-loop-e
invariant-loop-e l = map expr_of l.copies.items ≡ map (expr_with (roots_in l.roots)) (map expr_of (take l.e-index l.list))
