use Rattle.std.proofs.Common.{◌≡◌, map, take}
use Rattle.p4_meaning.specs.Tables.{key_words}
use Rattle.p4_parts.specs.PartsIn.{key_in}
use Rattle.p4_packets.specs.Fields.{store_of}
use Rattle.p4_statements.proofs.tables.key_words.Given as goal

abbrev pub invariant-loop-k : goal.invariant-loop-k
invariant-loop-k l = l.words.items ≡ key_words (map key_in (take l.k-index l.keys)) (store_of l.s)
