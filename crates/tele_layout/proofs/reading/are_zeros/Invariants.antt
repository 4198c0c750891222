use Rattle.std.proofs.Common.{◌≡◌, ◌+◌, ◌-◌, take, drop}
use Rattle.bit_values.specs.Bytes.{bits_of}
use Rattle.tele_layout.specs.Reading.{all_zero}
use Rattle.tele_layout.proofs.reading.are_zeros.Given as goal

abbrev pub invariant-loop-i : goal.invariant-loop-i
invariant-loop-i l = all_zero (take (l.count - l.i) (drop (l.at + l.i) (bits_of l.buf))) ≡ all_zero (take l.count (drop l.at (bits_of l.buf)))
