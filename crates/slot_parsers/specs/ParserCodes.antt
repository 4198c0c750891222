-- A parser over slots, whose states have numbers, and what it does. Read `Codes` of `slot_statements` before it, `Fields` of
-- `slot_packets` and `HeaderSlots` of `slot_places`; `Parses` after it.
use Rattle.std.specs.Prelude.{ℕ, zero, suc, List, [], ◌∷◌, map, length, drop, get_or, slice_get, slice_set, replicate, Bool, true, false, ◌&&◌, if◌then◌else◌, nat_eq, nat_lt, bit_and, Option, Some, None, Result, Ok, Err}
use Rattle.p4_meaning.specs.Parsing.{ParserError, NoError, PacketTooShort, NoMatch}
use Rattle.slot_terms.specs.States.{State}
use Rattle.slot_terms.specs.Terms.{Term, eval}
use Rattle.slot_packets.specs.Fields.{take_fields, widths_sum}
use Rattle.slot_places.specs.HeaderSlots.{HeaderSlots}
use Rattle.slot_statements.specs.Codes.{Code, exec}

-- a statement of a state: nothing, an assignment, or the extract of the header of a number
pub data Step : Type 0 where
  pass : Step
  assigns : Code → Step
  takes : (header : ℕ) → Step

-- a key set
pub data Key : Type 0 where
  any : Key
  only : (value : Term) → Key
  masked : (value mask : Term) → Key

-- a case of a `select`: the state that follows, or none where the parser ends
pub record Case : Type 0 where
  pub keys : List Key
  pub next : Option ℕ

-- what follows a state: the end, a state, or that of the first case that fits
pub data Next : Type 0 where
  stop : Next
  to : Option ℕ → Next
  select : List Term → List Case → Next

pub record StateCode : Type 0 where
  pub steps : List Step
  pub next : Next

-- a parser: its states by their numbers, and the first one
pub record ParserCode : Type 0 where
  pub states : List StateCode
  pub start : Option ℕ

-- ---- steps

-- the slots, and the bits that were not consumed
pub record SlotReading : Type 0 where
  pub state : State
  pub rest : List ℕ

-- a step goes on, or the parser halts with an error
pub data Stepped : Type 0 where
  on : SlotReading → Stepped
  halt : SlotReading → ParserError → Stepped

-- the extract of the header of a number: with too few bits nothing is done
abbrev pub taken : HeaderSlots → (number : ℕ) → SlotReading → Stepped
taken h n r =
    if nat_lt (length r.rest) (widths_sum h.widths)
    then halt r PacketTooShort
    else on (record {
      state = record { slots = take_fields h.widths h.first r.rest r.state.slots; valid = slice_set r.state.valid n true };
      rest = drop (widths_sum h.widths) r.rest;
    })

abbrev pub taken_at : Option HeaderSlots → (number : ℕ) → SlotReading → Stepped
taken_at None n r = on r
taken_at (Some h) n r = taken h n r

abbrev pub unless_halted : Stepped → (SlotReading → Stepped) → Stepped
unless_halted (on r) more = more r
unless_halted (halt r e) more = halt r e

module _ (headers : List HeaderSlots) where
  abbrev pub step_done : Step → SlotReading → Stepped
  step_done pass r = on r
  step_done (assigns c) r = on (record r { state = (exec c r.state).0 })
  step_done (takes n) r = taken_at (slice_get headers n) n r

  abbrev pub steps_done : List Step → SlotReading → Stepped
  steps_done [] r = on r
  steps_done (c ∷ cs) r = unless_halted (step_done c r) (steps_done cs)

-- ---- what follows a state

-- the values of terms
abbrev pub values_of : List Term → State → List ℕ
values_of ts s = map (λ t. eval s.slots s.valid t) ts

-- a key set fits a number
abbrev pub fits_key : Key → ℕ → State → Bool
fits_key any v s = true
fits_key (only t) v s = nat_eq v (eval s.slots s.valid t)
fits_key (masked t m) v s = nat_eq (bit_and v (eval s.slots s.valid m)) (bit_and (eval s.slots s.valid t) (eval s.slots s.valid m))

-- key sets fit numbers one by one
abbrev pub fits_keys : List Key → List ℕ → State → Bool
fits_keys [] [] s = true
fits_keys [] (v ∷ vs) s = false
fits_keys (k ∷ ks) [] s = false
fits_keys (k ∷ ks) (v ∷ vs) s = fits_key k v s && fits_keys ks vs s

-- one `default` alone fits all
abbrev pub fits_case : List Key → List ℕ → State → Bool
fits_case (any ∷ []) vs s = true
fits_case ks vs s = fits_keys ks vs s

abbrev pub first_case : List Case → List ℕ → State → Option (Option ℕ)
first_case [] vs s = None
first_case (c ∷ cs) vs s = if fits_case c.keys vs s then Some c.next else first_case cs vs s

-- where no case fits, the error is NoMatch
abbrev pub led_to : Option (Option ℕ) → Result (Option ℕ) ParserError
led_to None = Err NoMatch
led_to (Some x) = Ok x

abbrev pub next_of : Next → State → Result (Option ℕ) ParserError
next_of stop s = Err NoError
next_of (to x) s = Ok x
next_of (select ts cs) s = led_to (first_case cs (values_of ts s) s)

-- ---- states

-- how a parser ended
pub record SlotEnd : Type 0 where
  pub reading : SlotReading
  pub error : ParserError

abbrev pub slot_end : SlotReading → ParserError → SlotEnd
slot_end r e = record { reading = r; error = e }

-- a state ends the parser, or another state follows
pub data SlotTurn : Type 0 where
  ends : SlotEnd → SlotTurn
  leads : Option ℕ → SlotReading → SlotTurn

abbrev pub led : Result (Option ℕ) ParserError → SlotReading → SlotTurn
led (Ok x) r = leads x r
led (Err e) r = ends (slot_end r e)

abbrev pub turned : Stepped → Next → SlotTurn
turned (on r) n = led (next_of n r.state) r
turned (halt r e) n = ends (slot_end r e)

abbrev pub on_turn : SlotTurn → (Option ℕ → SlotReading → SlotEnd) → SlotEnd
on_turn (ends e) more = e
on_turn (leads x r) more = more x r

module _ (headers : List HeaderSlots) (states : List StateCode) where
  -- how the state of a number ends, if there is one
  abbrev pub state_turn : Option StateCode → SlotReading → SlotTurn
  state_turn None r = ends (slot_end r NoError)
  state_turn (Some c) r = turned (steps_done headers c.steps r) c.next

  -- so many turns at most, each through a state that was not passed yet. What has no flag counts as passed
  abbrev pub turns : ℕ → (passed : List Bool) → Option ℕ → SlotReading → SlotEnd
  turns zero ps x r = slot_end r NoError
  turns (suc k) ps None r = slot_end r NoError
  turns (suc k) ps (Some n) r = if get_or ps n true then slot_end r NoError else on_turn (state_turn (slice_get states n) r) (turns k (slice_set ps n true))

-- the parser from its first state on, none being passed yet
abbrev pub parsed : List HeaderSlots → ParserCode → SlotReading → SlotEnd
parsed headers p r = turns headers p.states (suc (length p.states)) (replicate (length p.states) false) p.start r
