use Rattle.std.proofs.Common.{◌≡◌, map, take}
use Rattle.p4_tree.specs.View.{stmt_of}
use Rattle.p4_meaning.specs.Under.{stmt_under}
use Rattle.p4_resolved.specs.Scopes.{scope_of}
use Rattle.p4_resolved.proofs.under.+under.Given as goal

abbrev pub invariant-stmts_under-loop-s : goal.invariant-stmts_under-loop-s
invariant-stmts_under-loop-s l = map stmt_of l.copies.items ≡ map (stmt_under (scope_of l.sc)) (map stmt_of (take l.s-index l.list))
