-- Numbers at offsets of a file, and what its magic number and its times say.
use Rattle.std.specs.Prelude.{ℕ, ◌/◌, List, drop}
use Rattle.byteorder.specs.Endian.{big_number, little_number}
use Rattle.pcap_io.specs.declared.form.Order.{Order}
use Rattle.pcap_io.specs.declared.form.Order.TheVariants.{Little, Big}
use Rattle.pcap_io.specs.declared.form.Precision.{Precision}
use Rattle.pcap_io.specs.declared.form.Precision.TheVariants.{Micros, Nanos}

-- the number in the first bytes of a list, as many as `width` says
abbrev pub number : Order → ℕ → List ℕ → ℕ
number Little width bytes = little_number width bytes
number Big width bytes = big_number width bytes

-- the number in the `width` bytes at offset `at` of a file
abbrev pub field : Order → ℕ → ℕ → List ℕ → ℕ
field order width at file = number order width (drop at file)

-- the magic number as it reads with the lowest byte first. It is a1b2c3d4, or a1b23c4d in a file of
-- nanoseconds, so that it reads reversed where the highest byte stands first
abbrev pub magic_of : Order → Precision → ℕ
magic_of Little Micros = 0xa1b2c3d4
magic_of Little Nanos = 0xa1b23c4d
magic_of Big Micros = 0xd4c3b2a1
magic_of Big Nanos = 0x4d3cb2a1

-- the microseconds of a time whose fraction of a second is this number; of nanoseconds whole
-- microseconds are kept
abbrev pub micros_of : Precision → ℕ → ℕ
micros_of Micros fraction = fraction
micros_of Nanos fraction = fraction / 1000
