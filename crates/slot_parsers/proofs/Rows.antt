-- Worked rows: a parser of two states. The first extracts a header of 8 bits and selects by it; 7 leads to the second, which
-- extracts another one and goes back to the first.
use Rattle.std.proofs.Common.{◌≡◌, ℕ, List, [], ◌∷◌, true, false, Some, None, refl}
use Rattle.bit_values.specs.Bytes.{bits_of}
use Rattle.p4_meaning.specs.Parsing.{NoError, PacketTooShort, NoMatch}
use Rattle.slot_terms.specs.Terms.{constant, slot}
use Rattle.slot_places.specs.HeaderSlots.{HeaderSlots}
use Rattle.slot_parsers.specs.ParserCodes.{Case, any, only, masked, StateCode, ParserCode, select, to, takes, SlotReading, parsed}

abbrev headers : List HeaderSlots
headers = record { first = 0; widths = 8 ∷ [] } ∷ record { first = 1; widths = 8 ∷ [] } ∷ []

abbrev otherwise : List Case
otherwise = record { keys = any ∷ []; next = None } ∷ []

abbrev first : List Case → StateCode
first cases = record { steps = takes 0 ∷ []; next = select (slot 0 ∷ []) (record { keys = only (constant 7) ∷ []; next = Some 1 } ∷ cases) }

abbrev second : StateCode
second = record { steps = takes 1 ∷ []; next = to (Some 0) }

abbrev parser : List Case → ParserCode
parser cases = record { states = first cases ∷ second ∷ []; start = Some 0 }

-- two slots that hold 9, and no valid header, before these bytes
abbrev before : List ℕ → SlotReading
before frame = record { state = record { slots = 9 ∷ 9 ∷ []; valid = false ∷ false ∷ [] }; rest = bits_of frame }

-- both headers are extracted; the first state was passed already, so the parser ends
both_taken : parsed headers (parser otherwise) (before (7 ∷ 42 ∷ [])) ≡ record { reading = record { state = record { slots = 7 ∷ 42 ∷ []; valid = true ∷ true ∷ [] }; rest = [] }; error = NoError }
both_taken = refl

-- another number leads to the end
one_taken : parsed headers (parser otherwise) (before (8 ∷ 42 ∷ [])) ≡ record { reading = record { state = record { slots = 8 ∷ 9 ∷ []; valid = true ∷ false ∷ [] }; rest = bits_of (42 ∷ []) }; error = NoError }
one_taken = refl

-- no case fits
none_fits : parsed headers (parser []) (before (8 ∷ 42 ∷ [])) ≡ record { reading = record { state = record { slots = 8 ∷ 9 ∷ []; valid = true ∷ false ∷ [] }; rest = bits_of (42 ∷ []) }; error = NoMatch }
none_fits = refl

-- a frame of one byte: the second header stays as it was
too_short : parsed headers (parser otherwise) (before (7 ∷ [])) ≡ record { reading = record { state = record { slots = 7 ∷ 9 ∷ []; valid = true ∷ false ∷ [] }; rest = [] }; error = PacketTooShort }
too_short = refl

-- 8 masked by 7 is 0, as 16 is
masked_case : parsed headers (parser (record { keys = masked (constant 16) (constant 7) ∷ []; next = Some 1 } ∷ [])) (before (8 ∷ 42 ∷ [])) ≡ record { reading = record { state = record { slots = 8 ∷ 42 ∷ []; valid = true ∷ true ∷ [] }; rest = [] }; error = NoError }
masked_case = refl
