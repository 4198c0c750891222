use Rattle.std.proofs.Common.{◌+◌, ◌*◌, ◌++◌, drop, length, take}
use Rattle.bit_values.specs.Bytes.{bits_of}
use Rattle.tele_layout.specs.Telemetry.{numbers_bits}
use Rattle.tele_layout.proofs.WritingLemmas.{Putting}
use Rattle.tele_layout.proofs.writing.put_numbers.Given as goal

abbrev pub invariant-loop-v : goal.invariant-loop-v
invariant-loop-v l =
    Putting l.width (l.at + length l.numbers * l.width) (take l.at (bits_of l.initial.buf) ++ numbers_bits l.width l.numbers) l.end (bits_of l.buf) (drop l.v-index l.numbers)
