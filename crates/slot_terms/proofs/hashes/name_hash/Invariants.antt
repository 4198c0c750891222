use Rattle.std.proofs.Common.{◌≡◌, drop}
use Rattle.slot_terms.specs.Hashes.{name_hash}
use Rattle.slot_terms.proofs.hashes.name_hash.Given as goal

abbrev pub invariant-loop-byte : goal.invariant-loop-byte
invariant-loop-byte l = name_hash l.hash (drop l.byte-index l.name) ≡ name_hash l.fn.hash l.name
