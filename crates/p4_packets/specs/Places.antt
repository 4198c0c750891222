-- Where a parser is in a frame, and how its steps end.
use Rattle.std.specs.Prelude.{◌≡◌, ℕ, suc, List, drop, ◌≤◌, Option, Some, None, Result, Ok, Err}
use Rattle.std.proofs.Common.{Bor}
use Rattle.bit_values.specs.Bytes.{bits_of}
use Rattle.p4_tree.specs.Tree.{ParserState}
use Rattle.p4_meaning.specs.Parsing as parsing
use Rattle.p4_meaning.specs.Parsing.{Header, on_turned, turns_of, Reading, Parsed, goes_on, stops, ParserEnd, parser_end, Turned, ends, leads}
use Rattle.p4_packets.specs.Fields.{store_of}
use Rattle.p4_packets.specs.declared.fields.Fields.{Fields}
use Rattle.p4_packets.specs.declared.parse.ParserError as code_error
use Rattle.p4_packets.specs.declared.parse.ParserError.TheVariants as error
use Rattle.p4_packets.specs.declared.parse.Step as code_step
use Rattle.p4_packets.specs.declared.parse.Step.TheVariants as step
use Rattle.p4_packets.specs.declared.select.Led as code_led
use Rattle.p4_packets.specs.declared.select.Led.TheVariants as led
use Rattle.p4_packets.specs.declared.states.Turn as code_turn
use Rattle.p4_packets.specs.declared.states.Turn.TheVariants as turn

-- how a parser ends
abbrev pub error_of : code_error.ParserError → parsing.ParserError
error_of error.NoError = parsing.NoError
error_of error.PacketTooShort = parsing.PacketTooShort
error_of error.NoMatch = parsing.NoMatch

-- the store, and the bits of the frame from a place on
abbrev pub reading_of : Fields → (frame : List ℕ) → (at : ℕ) → Reading
reading_of f frame at = record { store = store_of f; rest = drop at (bits_of frame) }

-- how a statement of a state ends
abbrev pub parsed_of : code_step.Step → Fields → List ℕ → Parsed
parsed_of (step.On at) f frame = goes_on (reading_of f frame at)
parsed_of (step.Stop at e) f frame = stops (reading_of f frame at) (error_of e)

-- the place of a step is in the frame
abbrev pub StepsWithin : code_step.Step → ℕ → Type 0
StepsWithin (step.On at) n = at ≤ n
StepsWithin (step.Stop at e) n = at ≤ n

-- a name that is lent
abbrev pub name_of : Option (Bor (List ℕ)) → Option (List ℕ)
name_of None = None
name_of (Some x) = Some x.now

-- the state that follows, or the error
abbrev pub led_of : code_led.Led → Result (List ℕ) parsing.ParserError
led_of (led.To x) = Ok x.now
led_of (led.Halt e) = Err (error_of e)

-- how a state ends
abbrev pub turned_of : code_turn.Turn → Fields → List ℕ → Turned
turned_of (turn.End at e) f frame = ends (parser_end (reading_of f frame at) (error_of e))
turned_of (turn.Next at x) f frame = leads x.now (reading_of f frame at)

-- the place of a turn is in the frame
abbrev pub TurnsWithin : code_turn.Turn → ℕ → Type 0
TurnsWithin (turn.End at e) n = at ≤ n
TurnsWithin (turn.Next at x) n = at ≤ n

-- how one turn ends, and which states are left: whatever number of turns follow, these are the turns from there on
abbrev pub IsTurn : List Header → List ParserState → (name : List ℕ) → Reading → Turned → (left : List ParserState) → Type 0
IsTurn hs sts x s t left = (n : ℕ) → turns_of (suc n) hs sts x s ≡ on_turned t (turns_of n hs left)
