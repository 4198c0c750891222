use Rattle.std.proofs.Common.{◌≡◌, ◌∷◌, take, map}
use Rattle.indus_scopes.specs.Scopes.{loop_of}
use Rattle.indus_scopes.specs.Sights.{scope_of}
use Rattle.indus_scopes.proofs.Entering.{Grown}
use Rattle.indus_scopes.proofs.loops.within.Given as goal

abbrev pub invariant-loop-i : goal.invariant-loop-i
invariant-loop-i l = Grown (scope_of l.fn.scope) l.names l.lists l.i l.items.keys l.kinds.items

abbrev pub invariant-loop-l : goal.invariant-loop-l
invariant-loop-l l = map loop_of l.around.items ≡ record { names = l.names; lists = l.lists } ∷ map loop_of (take l.l-index l.l-items)
