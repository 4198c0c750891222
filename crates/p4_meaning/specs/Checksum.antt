-- The checksum of RFC 1071: the one's complement of the one's complement sum of numbers of 16 bits. Read `Value` before
-- it and `Statements` after it.
use Rattle.std.specs.Prelude.{ℕ, ◌+◌, ◌*◌, ◌-◌, ◌/◌, ◌%◌, ◌^◌, List, [], ◌∷◌, map}
use Rattle.p4_tree.specs.Tree.{Expr}
use Rattle.p4_meaning.specs.Store.{Store}
use Rattle.p4_meaning.specs.Value.{value_of}
use Rattle.bit_writer.specs.Bytes.{words_bits, bytes_of}

-- the one's complement sum of two numbers of 16 bits: what goes over is added at the lowest bit
abbrev pub ones_sum : ℕ → ℕ → ℕ
ones_sum a b = (a + b) % 2 ^ 16 + (a + b) / 2 ^ 16

-- the one's complement sum of a number and of bytes, two by two, the higher one first. One byte alone is followed by 0
abbrev pub bytes_sum : ℕ → List ℕ → ℕ
bytes_sum sum [] = sum
bytes_sum sum (a ∷ []) = ones_sum sum (256 * a)
bytes_sum sum (a ∷ b ∷ rest) = bytes_sum (ones_sum sum (256 * a + b)) rest

-- the checksum of bytes
abbrev pub checksum_of : List ℕ → ℕ
checksum_of bytes = 65535 - bytes_sum 0 bytes

-- the checksum of a list of expressions, whose places give no width
abbrev pub list_checksum : List Expr → Store → ℕ
list_checksum es s = checksum_of (bytes_of (words_bits (map (λ e. value_of e 0 s) es)))
