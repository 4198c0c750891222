use Rattle.p4_scopes.specs.View.{scope_of}
use Rattle.p4_scopes.proofs.Changes.{Counted}
use Rattle.p4_scopes.proofs.scope.Scope.fields_bits.Given as goal

abbrev pub invariant-loop-f : goal.invariant-loop-f
invariant-loop-f l = Counted (scope_of l.self) l.fields l.f-index l.bits
