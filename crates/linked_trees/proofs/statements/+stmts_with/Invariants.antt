use Rattle.std.proofs.Common.{◌≡◌, map, take}
use Rattle.p4_tree.specs.View.{stmt_of}
use Rattle.p4_resolved.specs.Scopes.{roots_in}
use Rattle.linked_programs.specs.Rewritten.{stmt_with}
use Rattle.linked_trees.proofs.statements.+stmts_with.Given as goal

abbrev pub invariant-stmts_with-loop-s : goal.invariant-stmts_with-loop-s
invariant-stmts_with-loop-s l = map stmt_of l.copies.items ≡ map (stmt_with (roots_in l.roots)) (map stmt_of (take l.s-index l.list))
