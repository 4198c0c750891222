use Rattle.std.proofs.Common.{◌≡◌, map, take}
use Rattle.p4_tree.specs.View.{expr_of}
use Rattle.p4_meaning.specs.Under.{expr_under}
use Rattle.p4_resolved.specs.Scopes.{scope_of}
use Rattle.p4_resolved.proofs.under.exprs_under.Given as goal

abbrev pub invariant-loop-e : goal.invariant-loop-e
invariant-loop-e l = map expr_of l.copies.items ≡ map (expr_under (scope_of l.sc)) (map expr_of (take l.e-index l.list))
