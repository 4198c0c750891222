-- Worked rows: eight slots and two headers before the parser, for a frame of 60 bytes that comes by port 3; what waits for
-- egress behind that; and packets that are dropped.
use Rattle.std.proofs.Common.{◌≡◌, [], ◌∷◌, true, false, refl}
use Rattle.p4_meaning.specs.Parsing.{PacketTooShort}
use Rattle.slot_terms.specs.States.{State}
use Rattle.slot_metadata.specs.Metadata.{started, with_error, drops, turned, port_of}

abbrev used : State
used = record { slots = 9 ∷ 9 ∷ 9 ∷ 9 ∷ 9 ∷ 9 ∷ 9 ∷ 9 ∷ []; valid = true ∷ false ∷ [] }

before : started 3 60 used ≡ record { slots = 3 ∷ 0 ∷ 0 ∷ 60 ∷ 0 ∷ 0 ∷ 0 ∷ 0 ∷ []; valid = false ∷ false ∷ [] }
before = refl

-- a port of more than 9 bits is cut
cut : started 515 60 used ≡ started 3 60 used
cut = refl

failed : with_error PacketTooShort used ≡ record { slots = 9 ∷ 9 ∷ 9 ∷ 9 ∷ 9 ∷ 1 ∷ 9 ∷ 9 ∷ []; valid = true ∷ false ∷ [] }
failed = refl

-- ingress chose port 9
waits : turned used ≡ record { slots = 9 ∷ 0 ∷ 9 ∷ 9 ∷ 9 ∷ 9 ∷ 9 ∷ 9 ∷ []; valid = true ∷ false ∷ [] }
waits = refl

leaves_by : port_of (turned (record { slots = 1 ∷ 4 ∷ 2 ∷ []; valid = [] })) ≡ 4
leaves_by = refl

stays : drops used ≡ false
stays = refl

dropped : drops (record { slots = 3 ∷ 511 ∷ []; valid = [] }) ≡ true
dropped = refl
