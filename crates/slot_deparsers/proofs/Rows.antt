-- Worked rows: two headers of 4, 4 and of 8 bits with slots from 1 on, of which the first is valid.
use Rattle.std.proofs.Common.{◌≡◌, List, [], ◌∷◌, true, false, refl, codes}
use Rattle.slot_terms.specs.States.{State}
use Rattle.slot_places.specs.HeaderSlots.{HeaderSlots}
use Rattle.slot_deparsers.specs.Emits.{emitted_bits, most_bits, numbers_of}

abbrev headers : List HeaderSlots
headers = record { first = 1; widths = 4 ∷ 4 ∷ [] } ∷ record { first = 3; widths = 8 ∷ [] } ∷ []

abbrev state : State
state = record { slots = 0 ∷ 4 ∷ 5 ∷ 9 ∷ []; valid = true ∷ false ∷ [] }

-- 0100, 0101; the second header is not valid, and a third there is not
bits : emitted_bits headers (0 ∷ 1 ∷ 2 ∷ []) state ≡ 0 ∷ 1 ∷ 0 ∷ 0 ∷ 0 ∷ 1 ∷ 0 ∷ 1 ∷ []
bits = refl

most : most_bits headers (0 ∷ 1 ∷ 2 ∷ []) ≡ 16
most = refl

twice : most_bits headers (1 ∷ 1 ∷ []) ≡ 16
twice = refl

-- of the paths that are emitted one is no header's
numbers : numbers_of ((codes "hdr" ∷ codes "eth" ∷ []) ∷ (codes "hdr" ∷ codes "tag" ∷ []) ∷ []) ((codes "hdr" ∷ codes "tag" ∷ []) ∷ (codes "hdr" ∷ []) ∷ (codes "hdr" ∷ codes "eth" ∷ []) ∷ []) ≡ 1 ∷ 0 ∷ []
numbers = refl
