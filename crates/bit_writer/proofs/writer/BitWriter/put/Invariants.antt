use Rattle.std.proofs.Common.{◌≡◌, ◌-◌, ◌++◌}
use Rattle.bit_values.specs.BitLists.{number_bits}
use Rattle.bit_writer.specs.Written.{bits_in}
use Rattle.bit_writer.proofs.writer.BitWriter.put.Given as goal

abbrev pub invariant-loop-i : goal.invariant-loop-i
invariant-loop-i l = bits_in l.self ++ number_bits (l.width - l.i) l.value ≡ bits_in l.initial.self ++ number_bits l.width l.value
