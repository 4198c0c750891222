-- A parser over slots does what the parser of a program means. Read `ParserCodes` before it, `Parsing` of the trees' meaning
-- and `Places` of `slot_terms`; `Extracts` and `Selects` after it.
use Rattle.std.specs.Prelude.{◌≡◌, ℕ, suc, List, [], ◌∷◌, length, Bool, true, ◌&&◌, is_none, if◌then◌else◌, Option, Some, None, Result, Ok, Err, codes}
use Rattle.std.specs.Option.{option_map}
use Rattle.bit_values.specs.BitLists.{AreBits}
use Rattle.lex_text.specs.Names.{same_text}
use Rattle.p4_tree.specs.Tree.{Stmt, ParserState, Transition}
use Rattle.p4_meaning.specs.Parsing.{Header, Reading, Parsed, goes_on, stops, ParserError, ParserEnd, ends_parser, stmt_parsed, state_after, parse_of}
use Rattle.p4_meaning.specs.Parts.{Parts}
use Rattle.slot_terms.specs.Places.{Places, Follows}
use Rattle.slot_places.specs.ProgramRows.{first_header}
use Rattle.slot_places.specs.HeaderSlots.{HeaderSlots, slots_of_headers}
use Rattle.slot_parsers.specs.ParserCodes.{Step, Next, StateCode, ParserCode, SlotReading, Stepped, on, halt, SlotEnd, step_done, next_of, parsed}

-- where the fields of a program's headers begin
abbrev pub heads_of : Parts → List HeaderSlots
heads_of p = slots_of_headers p.headers (first_header p)

-- the number of the first state of a name
abbrev pub state_number : List ParserState → List ℕ → Option ℕ
state_number [] x = None
state_number (st ∷ sts) x = if same_text st.name x then Some 0 else option_map suc (state_number sts x)

-- no two states have one name
abbrev pub are_named : List ParserState → Bool
are_named [] = true
are_named (st ∷ sts) = is_none (state_number sts st.name) && are_named sts

-- where a name leads: to the state of a number, or nowhere, where the parser ends
abbrev pub target : List ParserState → List ℕ → Option ℕ
target sts x = if ends_parser x then None else state_number sts x

-- the state that follows by its number, or the error
abbrev pub with_target : List ParserState → Result (List ℕ) ParserError → Result (Option ℕ) ParserError
with_target sts (Ok x) = Ok (target sts x)
with_target sts (Err e) = Err e

-- the slots follow the store, the bits are the same, and each header has a bit of validity
pub record Reads (m : Places) (r : SlotReading) (s : Reading) : Type 0 where
  pub follows : Follows m r.state.slots r.state.valid s.store
  pub rest : r.rest ≡ s.rest
  pub bits : AreBits s.rest
  pub valid : length r.state.valid ≡ length m.headers

-- both go on, or both stop with one error
abbrev pub StepsAlike : Places → Stepped → Parsed → Type 0
StepsAlike m (on r) (goes_on s) = Reads m r s
StepsAlike m (halt r e) (stops s f) = Reads m r s × (e ≡ f)
StepsAlike m (on r) (stops s f) = ⊥
StepsAlike m (halt r e) (goes_on s) = ⊥

-- both end alike
pub record EndsAlike (m : Places) (e : SlotEnd) (f : ParserEnd) : Type 0 where
  pub reads : Reads m e.reading f.reading
  pub error : e.error ≡ f.error

-- a step does what a statement of a state means
abbrev pub DoesStep : Places → List HeaderSlots → List Header → Step → Stmt → Type 0
DoesStep m heads hs c st = (r : SlotReading) (s : Reading) → Reads m r s → StepsAlike m (step_done heads c r) (stmt_parsed hs st s)

-- the same one by one
abbrev pub DoSteps : Places → List HeaderSlots → List Header → List Step → List Stmt → Type 0
DoSteps m heads hs [] [] = Unit {0}
DoSteps m heads hs (c ∷ cs) [] = ⊥
DoSteps m heads hs [] (st ∷ sts) = ⊥
DoSteps m heads hs (c ∷ cs) (st ∷ sts) = DoesStep m heads hs c st × DoSteps m heads hs cs sts

-- what follows a state over slots is what follows it
abbrev pub Leads : Places → List ParserState → Next → Transition → Type 0
Leads m sts n t = (r : SlotReading) (s : Reading) → Reads m r s → next_of n r.state ≡ with_target sts (state_after t s.store)

-- the code of a state
pub record IsStateOf (m : Places) (heads : List HeaderSlots) (hs : List Header) (all : List ParserState) (c : StateCode) (st : ParserState) : Type 0 where
  pub steps : DoSteps m heads hs c.steps st.body
  pub next : Leads m all c.next st.next

abbrev pub AreStatesOf : Places → List HeaderSlots → List Header → List ParserState → List StateCode → List ParserState → Type 0
AreStatesOf m heads hs all [] [] = Unit {0}
AreStatesOf m heads hs all (c ∷ cs) [] = ⊥
AreStatesOf m heads hs all [] (st ∷ sts) = ⊥
AreStatesOf m heads hs all (c ∷ cs) (st ∷ sts) = IsStateOf m heads hs all c st × AreStatesOf m heads hs all cs sts

-- over slots that follow the store of a reading, a parser does what a program's parser does
abbrev pub Parses : Places → List HeaderSlots → Parts → ParserCode → Type 0
Parses m heads p c = (r : SlotReading) (s : Reading) → Reads m r s → EndsAlike m (parsed heads c r) (parse_of p.headers p.states s)

-- where no two states have one name, and the codes of states are those of a parser's states, the parser over slots does what
-- the program's parser means
abbrev pub NumberedStatesParse : Type 0
NumberedStatesParse =
    (m : Places) (heads : List HeaderSlots) (p : Parts) (c : ParserCode) → are_named p.states ≡ true → AreStatesOf m heads p.headers p.states c.states p.states → c.start ≡ target p.states (codes "start") → Parses m heads p c
