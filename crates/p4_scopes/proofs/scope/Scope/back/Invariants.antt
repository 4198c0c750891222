use Rattle.std.proofs.Common.{◌≡◌, take, length}
use Rattle.p4_scopes.proofs.scope.Scope.back.Given as goal

abbrev pub invariant-loop-self : goal.invariant-loop-self
invariant-loop-self l = take l.mark l.self ≡ take l.fn.mark l.fn.self

abbrev pub decreases-loop-self : goal.decreases-loop-self
decreases-loop-self l = length l.self
