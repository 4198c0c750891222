use Rattle.std.proofs.Common.{◌≡◌, ◌++◌, drop}
use Rattle.bit_writer.specs.Bytes.{words_bits}
use Rattle.bit_writer.specs.Written.{bits_in}
use Rattle.p4_statements.proofs.sums.put_words.Given as goal

abbrev pub invariant-loop-v : goal.invariant-loop-v
invariant-loop-v l = bits_in l.out ++ words_bits (drop l.v-index l.values) ≡ bits_in l.initial.out ++ words_bits l.values
