use Rattle.std.proofs.Common.{◌≡◌, drop}
use Rattle.slot_terms.specs.Hashes.{names_hash, path_hash}
use Rattle.slot_terms.proofs.hashes.path_hash.Given as goal

abbrev pub invariant-loop-name : goal.invariant-loop-name
invariant-loop-name l = names_hash l.hash (drop l.name-index l.path) ≡ path_hash l.path
