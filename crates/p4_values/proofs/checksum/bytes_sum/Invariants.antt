use Rattle.std.proofs.Common.{◌≡◌, drop}
use Rattle.p4_meaning.specs.Checksum.{bytes_sum}
use Rattle.p4_values.specs.Sums.{sum_from}
use Rattle.p4_values.proofs.checksum.bytes_sum.Given as goal

abbrev pub invariant-loop-byte : goal.invariant-loop-byte
invariant-loop-byte l = sum_from l.sum l.high (drop l.byte-index l.bytes) ≡ bytes_sum 0 l.bytes
