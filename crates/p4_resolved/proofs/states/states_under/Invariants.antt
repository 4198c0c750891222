use Rattle.std.proofs.Common.{◌≡◌, map, take}
use Rattle.p4_tree.specs.View.{state_of}
use Rattle.p4_meaning.specs.Under.{state_under}
use Rattle.p4_resolved.specs.Scopes.{scope_of}
use Rattle.p4_resolved.proofs.states.states_under.Given as goal

abbrev pub invariant-loop-s : goal.invariant-loop-s
invariant-loop-s l = map state_of l.copies.items ≡ map (state_under (scope_of l.sc)) (map state_of (take l.s-index l.list))
