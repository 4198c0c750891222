-- Bits that are no whole byte yet.
use Rattle.std.specs.Prelude.{ℕ, List, [], Option, Some, None}
use Rattle.bit_values.specs.Bits.{Word}
use Rattle.bit_values.specs.BitLists.{number_bits}

-- how many bits they are
abbrev pub part_width : Option Word → ℕ
part_width None = 0
part_width (Some w) = w.width

-- the bits
abbrev pub part_bits : Option Word → List ℕ
part_bits None = []
part_bits (Some w) = number_bits w.width w.value
