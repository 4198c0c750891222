use Rattle.std.proofs.Common.{◌≡◌, take}
use Rattle.p4_scopes.specs.Scopes.{kinds_in}
use Rattle.p4_scopes.specs.View.{scope_of}
use Rattle.p4_scopes.proofs.scope.Scope.kinds_in.Given as goal

abbrev pub invariant-loop-p : goal.invariant-loop-p
invariant-loop-p l = l.kinds.items ≡ kinds_in (scope_of l.self) (take l.p-index l.params)
