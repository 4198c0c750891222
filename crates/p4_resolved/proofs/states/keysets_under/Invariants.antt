use Rattle.std.proofs.Common.{◌≡◌, map, take}
use Rattle.p4_tree.specs.View.{keyset_of}
use Rattle.p4_meaning.specs.Under.{keyset_under}
use Rattle.p4_resolved.specs.Scopes.{scope_of}
use Rattle.p4_resolved.proofs.states.keysets_under.Given as goal

abbrev pub invariant-loop-k : goal.invariant-loop-k
invariant-loop-k l = map keyset_of l.copies.items ≡ map (keyset_under (scope_of l.sc)) (map keyset_of (take l.k-index l.list))
