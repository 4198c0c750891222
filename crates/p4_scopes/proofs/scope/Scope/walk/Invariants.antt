use Rattle.std.proofs.Common.{◌≡◌, drop}
use Rattle.p4_scopes.specs.Resolving.{walk}
use Rattle.p4_scopes.proofs.scope.Scope.walk.Given as goal

abbrev pub invariant-loop-x : goal.invariant-loop-x
invariant-loop-x l = walk l.self l.at (drop l.x-index l.path) ≡ walk l.fn.self l.fn.from l.fn.path
