use Rattle.std.proofs.Common.{◌≡◌, map, take}
use Rattle.p4_resolved.specs.Scopes.{names_of}
use Rattle.p4_resolved.proofs.names.Names.copy.Given as goal

abbrev pub invariant-loop-row : goal.invariant-loop-row
invariant-loop-row l = names_of l.names ≡ map (λ r. r.0) (take l.row-index l.self.rows.rows.items)
