-- What a passage does to slots outside of its parser and its controls: the slots before the parser, the parser's error, when
-- a packet is dropped, and what waits for egress. Read `ProgramRows` of `slot_places` before it, and `Pass` of the trees'
-- meaning; `Laws` after it.
use Rattle.std.specs.Prelude.{ℕ, List, length, replicate, Bool, false, nat_eq, slice_set}
use Rattle.bit_values.specs.Bits.{cast}
use Rattle.p4_meaning.specs.Parsing.{ParserError}
use Rattle.p4_meaning.specs.Pass.{error_number}
use Rattle.slot_terms.specs.States.{State}
use Rattle.slot_terms.specs.Terms.{number_in}

-- the slots before the parser: the port, the length of the frame, and else 0; no header is valid
abbrev pub start_slots : (port len : ℕ) → (count : ℕ) → List ℕ
start_slots port len n = slice_set (slice_set (replicate n 0) 0 (cast 9 port)) 3 (cast 32 len)

abbrev pub started : (port len : ℕ) → State → State
started port len s = record { slots = start_slots port len (length s.slots); valid = replicate (length s.valid) false }

-- behind the parser its error is known
abbrev pub with_error : ParserError → State → State
with_error e s = record s { slots = slice_set s.slots 5 (error_number e) }

-- the packet is dropped
abbrev pub drops : State → Bool
drops s = nat_eq (number_in s.slots 1) 511

-- `egress_port` becomes `egress_spec`, and `egress_spec` 0
abbrev pub egress_slots : List ℕ → List ℕ
egress_slots slots = slice_set (slice_set slots 2 (number_in slots 1)) 1 0

abbrev pub turned : State → State
turned s = record s { slots = egress_slots s.slots }

-- the 9 bits of the port by which a packet leaves
abbrev pub port_of : State → ℕ
port_of s = cast 9 (number_in s.slots 2)
