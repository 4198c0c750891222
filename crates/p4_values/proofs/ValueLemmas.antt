-- Operands are cast to one width.
use Rattle.std.proofs.Common.{ℕ, refl}
use Rattle.bit_values.specs.Bits.{word}
use Rattle.bit_values.specs.Widths.{sound_width}
use Rattle.bit_values.specs.Operators.{Class, like, shift, joined, compare, logic, left_place, right_place, AreAlike}

pub cast_alike : (k : Class) (v u w m n : ℕ) → AreAlike k (word (sound_width (left_place k v u w)) m) (word (sound_width (right_place k v u w)) n)
cast_alike like v u w m n = refl
cast_alike shift v u w m n = tt
cast_alike joined v u w m n = tt
cast_alike compare v u w m n = tt
cast_alike logic v u w m n = tt
