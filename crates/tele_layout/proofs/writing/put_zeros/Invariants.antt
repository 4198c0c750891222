use Rattle.std.proofs.Common.{◌≡◌, ◌+◌, ◌++◌, replicate, take}
use Rattle.bit_values.specs.Bytes.{bits_of}
use Rattle.tele_layout.proofs.writing.put_zeros.Given as goal

abbrev pub invariant-loop-i : goal.invariant-loop-i
invariant-loop-i l = take (l.at + l.i) (bits_of l.buf) ≡ take l.at (bits_of l.initial.buf) ++ replicate l.i 0
