use Rattle.std.proofs.Common.{◌≡◌, ◌++◌, drop}
use Rattle.bit_values.specs.Bytes.{bits_of}
use Rattle.bit_writer.specs.Written.{bits_in}
use Rattle.bit_writer.proofs.writer.BitWriter.put_bytes.Given as goal

abbrev pub invariant-loop-b : goal.invariant-loop-b
invariant-loop-b l = bits_in l.self ++ bits_of (drop l.b-index l.bytes) ≡ bits_in l.initial.self ++ bits_of l.bytes
