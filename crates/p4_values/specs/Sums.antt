-- The checksum of bytes, in the middle of a walk over them.
use Rattle.std.specs.Prelude.{ℕ, List, ◌∷◌, Option, Some, None}
use Rattle.p4_meaning.specs.Checksum.{bytes_sum}

-- the one's complement sum from a number on, perhaps with the first byte of a pair
abbrev pub sum_from : ℕ → Option ℕ → List ℕ → ℕ
sum_from sum None bytes = bytes_sum sum bytes
sum_from sum (Some high) bytes = bytes_sum sum (high ∷ bytes)
