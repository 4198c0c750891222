use Rattle.std.proofs.Common.{◌≡◌, map, take}
use Rattle.p4_tree.specs.View.{key_of}
use Rattle.p4_meaning.specs.Tables.{key_under}
use Rattle.p4_parts.specs.PartsIn.{key_in}
use Rattle.p4_resolved.specs.Scopes.{scope_of}
use Rattle.p4_parts.proofs.tables.keys_under.Given as goal

abbrev pub invariant-loop-k : goal.invariant-loop-k
invariant-loop-k l = map key_in l.keys.items ≡ map (key_under (scope_of l.sc)) (map key_of (take l.k-index l.list))
