-- Worked rows: fields of 4, 4 and 8 bits with slots from 1 on, taken from the bits of two bytes and given back; and what
-- setValid and setInvalid do to the header of them, whose number is 0.
use Rattle.std.proofs.Common.{◌≡◌, ℕ, List, [], ◌∷◌, true, false, refl}
use Rattle.bit_values.specs.Bytes.{bits_of}
use Rattle.slot_terms.specs.States.{State}
use Rattle.slot_packets.specs.Fields.{take_fields, slot_bits}
use Rattle.slot_packets.specs.Validity.{with_validity}

abbrev widths : List ℕ
widths = 4 ∷ 4 ∷ 8 ∷ []

-- 0x45 0xFE: a version of 4, a length of 5, and a byte of 254
taken : take_fields widths 1 (bits_of (69 ∷ 254 ∷ [])) (9 ∷ 9 ∷ 9 ∷ 9 ∷ []) ≡ 9 ∷ 4 ∷ 5 ∷ 254 ∷ []
taken = refl

given_back : slot_bits widths 1 (9 ∷ 4 ∷ 5 ∷ 254 ∷ []) ≡ bits_of (69 ∷ 254 ∷ [])
given_back = refl

-- setValid makes the fields 0, but not those of a header that is valid already; setInvalid leaves them
made_valid : with_validity false true 0 1 3 (record { slots = 9 ∷ 4 ∷ 5 ∷ 254 ∷ []; valid = false ∷ [] }) ≡ record { slots = 9 ∷ 0 ∷ 0 ∷ 0 ∷ []; valid = true ∷ [] }
made_valid = refl

valid_already : with_validity true true 0 1 3 (record { slots = 9 ∷ 4 ∷ 5 ∷ 254 ∷ []; valid = true ∷ [] }) ≡ record { slots = 9 ∷ 4 ∷ 5 ∷ 254 ∷ []; valid = true ∷ [] }
valid_already = refl

made_invalid : with_validity true false 0 1 3 (record { slots = 9 ∷ 4 ∷ 5 ∷ 254 ∷ []; valid = true ∷ [] }) ≡ record { slots = 9 ∷ 4 ∷ 5 ∷ 254 ∷ []; valid = false ∷ [] }
made_invalid = refl
