-- The one's complement sum of bits that come word by word. Read `Checksum` of the trees' meaning before it.
use Rattle.std.specs.Prelude.{ℕ, ◌-◌, List, [], ◌++◌}
use Rattle.bit_values.specs.BitLists.{number_bits}
use Rattle.bit_writer.specs.Bytes.{bytes_of}
use Rattle.p4_meaning.specs.Checksum.{bytes_sum}

-- the sum of a number, of the bits that are left behind it, and of more bits
abbrev pub sum_behind : (sum part count : ℕ) → (more : List ℕ) → ℕ
sum_behind sum part count more = bytes_sum sum (bytes_of (number_bits count part ++ more))

-- the checksum, where no more bits come
abbrev pub checksum_behind : (sum part count : ℕ) → ℕ
checksum_behind sum part count = 65535 - sum_behind sum part count []
