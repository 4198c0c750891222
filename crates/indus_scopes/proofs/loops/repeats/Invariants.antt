use Rattle.indus_scopes.specs.Sights.{scope_of}
use Rattle.indus_scopes.proofs.Entering.{Seen}
use Rattle.indus_scopes.proofs.loops.repeats.Given as goal

abbrev pub invariant-loop-i : goal.invariant-loop-i
invariant-loop-i l = Seen (scope_of l.scope) l.names l.i l.seen.keys
