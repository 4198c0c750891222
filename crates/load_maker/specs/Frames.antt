-- The frame of a packet: Ethernet, IPv4, and a payload of zero bytes.
use Rattle.std.specs.Prelude.{ℕ, ◌+◌, ◌/◌, ◌%◌, List, [], ◌∷◌, ◌++◌, replicate}
use Rattle.p4_meaning.specs.Checksum.{checksum_of}
use Rattle.load_maker.specs.Fabric.{address_bytes, hardware_bytes}
use Rattle.load_maker.specs.declared.packet.Packet.{Packet}

-- a number of 16 bits, the higher byte first
abbrev pub two_bytes : ℕ → List ℕ
two_bytes n = n / 256 ∷ n % 256 ∷ []

-- the IPv4 header, with this checksum: version and length, service, total length, identification, flags, time to live,
-- protocol, checksum, source and destination
abbrev pub header_with : Packet → (checksum : ℕ) → List ℕ
header_with p sum =
    0x45 ∷ 0 ∷ (two_bytes (20 + p.length) ++ (0 ∷ 0 ∷ 0x40 ∷ 0 ∷ 0x40 ∷ 0x11 ∷ (two_bytes sum
    ++ (address_bytes p.source.address ++ address_bytes p.destination.address))))

-- the checksum is that of the header with 0 in its place
unfoldable pub ipv4_header : Packet → List ℕ
ipv4_header p = header_with p (checksum_of (header_with p 0))

unfoldable pub frame : Packet → List ℕ
frame p =
    hardware_bytes p.destination.hardware ++ (hardware_bytes p.source.hardware ++ (8 ∷ 0 ∷ [] ++ (ipv4_header p ++ replicate p.length 0)))
