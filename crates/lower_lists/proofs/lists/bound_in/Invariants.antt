use Rattle.std.proofs.Common.{◌≡◌, ◌++◌, take}
use Rattle.lower_lists.specs.Flat.{bound_to}
use Rattle.lower_lists.proofs.lists.bound_in.Given as goal

abbrev pub invariant-loop-b : goal.invariant-loop-b
invariant-loop-b l = l.inner.items ≡ take l.b-index l.bounds

abbrev pub invariant-loop-name : goal.invariant-loop-name
invariant-loop-name l = l.inner.items ++ bound_to l.name-iterator.a.rest.now l.name-iterator.b.rest.now l.turn ≡ l.bounds ++ bound_to l.names l.lists l.turn
