use Rattle.std.proofs.Common.{◌≡◌, map, take}
use Rattle.p4_meaning.specs.Scope.{full_name}
use Rattle.p4_resolved.specs.Scopes.{scope_of}
use Rattle.p4_parts.proofs.tables.full_names.Given as goal

abbrev pub invariant-loop-x : goal.invariant-loop-x
invariant-loop-x l = l.names.items ≡ map (full_name (scope_of l.sc)) (take l.x-index l.list)
