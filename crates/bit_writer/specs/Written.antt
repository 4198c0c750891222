-- The bits that a deparser has written.
use Rattle.std.specs.Prelude.{ℕ, List, ◌++◌}
use Rattle.bit_values.specs.Bytes.{bits_of}
use Rattle.bit_writer.specs.Pieces.{part_bits}
use Rattle.bit_writer.specs.declared.writer.BitWriter.{BitWriter}

-- the bits, first to last
abbrev pub bits_in : BitWriter → List ℕ
bits_in w = bits_of w.bytes.items ++ part_bits w.part
