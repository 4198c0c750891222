-- Parsers over slots as the code has them, and where a parser is in a frame. Read `ParserCodes` before it.
use Rattle.std.specs.Prelude.{◌≡◌, ℕ, suc, ◌≤◌, List, map, drop, Bool, Option, Result, Ok, Err}
use Rattle.bit_values.specs.Bytes.{bits_of}
use Rattle.p4_packets.specs.Places.{error_of}
use Rattle.p4_meaning.specs.Parsing.{ParserError}
use Rattle.slot_terms.specs.States.{State}
use Rattle.slot_terms.specs.Terms.{term_of}
use Rattle.slot_statements.specs.Codes.{code_of}
use Rattle.slot_places.specs.HeaderSlots.{HeaderSlots}
use Rattle.slot_parsers.specs.ParserCodes as codes
use Rattle.slot_parsers.specs.ParserCodes.{SlotReading, SlotEnd, slot_end, SlotTurn, on_turn, turns}
use Rattle.slot_parsers.specs.declared.codes.Step as code_step
use Rattle.slot_parsers.specs.declared.codes.Step.TheVariants as step
use Rattle.slot_parsers.specs.declared.codes.Key as code_key
use Rattle.slot_parsers.specs.declared.codes.Key.TheVariants as key
use Rattle.slot_parsers.specs.declared.codes.Case as code_case
use Rattle.slot_parsers.specs.declared.codes.Next as code_next
use Rattle.slot_parsers.specs.declared.codes.Next.TheVariants as next
use Rattle.slot_parsers.specs.declared.codes.StateCode as code_state
use Rattle.slot_parsers.specs.declared.codes.ParserCode as code_parser
use Rattle.slot_parsers.specs.declared.steps.Stepped as code_stepped
use Rattle.slot_parsers.specs.declared.steps.Stepped.TheVariants as stepped
use Rattle.slot_parsers.specs.declared.next.Led as code_led
use Rattle.slot_parsers.specs.declared.next.Led.TheVariants as led
use Rattle.slot_parsers.specs.declared.running.Turn as code_turn
use Rattle.slot_parsers.specs.declared.running.Turn.TheVariants as turn
use Rattle.slot_parsers.specs.declared.running.End as code_end

-- a step
abbrev pub step_of : code_step.Step → codes.Step
step_of step.Pass = codes.pass
step_of (step.Assigns c) = codes.assigns (code_of c)
step_of (step.Takes n) = codes.takes n

-- a key set, a case, and what follows a state
abbrev pub key_of : code_key.Key → codes.Key
key_of key.Any = codes.any
key_of (key.Only t) = codes.only (term_of t)
key_of (key.Masked t m) = codes.masked (term_of t) (term_of m)

abbrev pub case_of : code_case.Case → codes.Case
case_of c = record { keys = map key_of c.keys.items; next = c.next }

abbrev pub next_in : code_next.Next → codes.Next
next_in next.Stop = codes.stop
next_in (next.To x) = codes.to x
next_in (next.Select ts cs) = codes.select (map term_of ts.items) (map case_of cs.items)

-- a state, and a parser
abbrev pub state_in : code_state.StateCode → codes.StateCode
state_in c = record { steps = map step_of c.steps.items; next = next_in c.next }

abbrev pub parser_in : code_parser.ParserCode → codes.ParserCode
parser_in p = record { states = map state_in p.states.items; start = p.start }

-- ---- in a frame

-- the slots, and the bits of the frame from a place on
abbrev pub reading_at : State → (frame : List ℕ) → (at : ℕ) → SlotReading
reading_at s frame at = record { state = s; rest = drop at (bits_of frame) }

-- how a step ends
abbrev pub stepped_of : code_stepped.Stepped → State → List ℕ → codes.Stepped
stepped_of (stepped.On at) s frame = codes.on (reading_at s frame at)
stepped_of (stepped.Halt at e) s frame = codes.halt (reading_at s frame at) (error_of e)

-- the place of a step is in the frame
abbrev pub StepsWithin : code_stepped.Stepped → ℕ → Type 0
StepsWithin (stepped.On at) n = at ≤ n
StepsWithin (stepped.Halt at e) n = at ≤ n

-- what follows, or the error
abbrev pub led_in : code_led.Led → Result (Option ℕ) ParserError
led_in (led.To x) = Ok x
led_in (led.Halt e) = Err (error_of e)

-- how a state ends
abbrev pub turn_of : code_turn.Turn → State → List ℕ → SlotTurn
turn_of (turn.End at e) s frame = codes.ends (slot_end (reading_at s frame at) (error_of e))
turn_of (turn.Next at x) s frame = codes.leads x (reading_at s frame at)

-- the place of a turn is in the frame
abbrev pub TurnsWithin : code_turn.Turn → ℕ → Type 0
TurnsWithin (turn.End at e) n = at ≤ n
TurnsWithin (turn.Next at x) n = at ≤ n

-- how the parser ends
abbrev pub end_of : code_end.End → State → List ℕ → SlotEnd
end_of e s frame = slot_end (reading_at s frame e.at) (error_of e.error)

-- how one turn ends, and the flags behind it: whatever number of turns follow, these are the turns from there on
abbrev pub IsSlotTurn : List HeaderSlots → List codes.StateCode → (passed : List Bool) → Option ℕ → SlotReading → SlotTurn → (left : List Bool) → Type 0
IsSlotTurn heads cs ps x r t left = (n : ℕ) → turns heads cs (suc n) ps x r ≡ on_turn t (turns heads cs n left)
