use Rattle.std.proofs.Common.{◌≡◌, map, take}
use Rattle.p4_tree.specs.View.{case_of}
use Rattle.p4_meaning.specs.Under.{case_under}
use Rattle.p4_resolved.specs.Scopes.{scope_of}
use Rattle.p4_resolved.proofs.states.cases_under.Given as goal

abbrev pub invariant-loop-c : goal.invariant-loop-c
invariant-loop-c l = map case_of l.copies.items ≡ map (case_under (scope_of l.sc)) (map case_of (take l.c-index l.list))
