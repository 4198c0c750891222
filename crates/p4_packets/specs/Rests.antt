-- The bits of a frame that were not consumed.
use Rattle.std.specs.Prelude.{ℕ, List, drop}
use Rattle.bit_values.specs.Bytes.{bits_of}
use Rattle.p4_packets.specs.declared.rest.Rest.{Rest}

-- the bits
abbrev pub rest_in : Rest → List ℕ
rest_in r = drop r.skip (bits_of r.bytes.items)
