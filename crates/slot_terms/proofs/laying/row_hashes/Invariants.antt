use Rattle.std.proofs.Common.{◌≡◌, map, take}
use Rattle.slot_terms.specs.Hashes.{hash_of}
use Rattle.slot_terms.proofs.laying.row_hashes.Given as goal

abbrev pub invariant-loop-row : goal.invariant-loop-row
invariant-loop-row l = l.hashes.items ≡ map hash_of (take l.row-index l.rows)
