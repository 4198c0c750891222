-- What a control runs over slots, where it has calls, and what that does. Read `Codes` and `Actions` of `slot_statements`
-- before it, and `Validity` of `slot_packets`; `Callees` after it.
use Rattle.std.specs.Prelude.{ℕ, zero, suc, ◌+◌, ◌≤◌, max, List, [], ◌∷◌, ◌++◌, map, take, length, Bool, not, Option, if◌then◌else◌, nat_eq, get_or, slice_set, bit_and}
use Rattle.bit_values.specs.Bits.{Word}
use Rattle.bit_writer.specs.Bytes.{words_bits, bytes_of}
use Rattle.p4_meaning.specs.Checksum.{checksum_of}
use Rattle.p4_meaning.specs.Statements.{Flow, Go, Return, Exit, Digest, cell_at, cell_set}
use Rattle.p4_meaning.specs.Actions.{flow_behind}
use Rattle.p4_statements.specs.Runs.{digest_of}
use Rattle.slot_terms.specs.States.{State, state_of}
use Rattle.slot_terms.specs.Terms.{Term, term_of, eval, valid_at}
use Rattle.slot_terms.specs.Typed.{Typed, typed_of}
use Rattle.slot_statements.specs.Codes as codes
use Rattle.slot_statements.specs.Codes.{Code, code_of, put, exec}
use Rattle.slot_statements.specs.Actions.{bind, bind_words}
use Rattle.slot_statements.specs.Tables.{NumberedOutcome, key_word}
use Rattle.slot_packets.specs.Validity.{with_validity}
use Rattle.slot_terms.specs.declared.state.State as code_state
use Rattle.slot_controls.specs.declared.application.ActionSlots as code_action
use Rattle.slot_controls.specs.declared.application.Application as code_application
use Rattle.slot_controls.specs.declared.externs.Externs as code_externs
use Rattle.slot_controls.specs.declared.headers.HeaderSlots as code_slots
use Rattle.slot_controls.specs.declared.step.Step as code_step
use Rattle.slot_controls.specs.declared.targets.Target as code_target
use Rattle.slot_controls.specs.declared.step.Step.TheOpen as layer
use Rattle.slot_controls.specs.declared.step.Step.TheFolds.{fold-Step}

-- an action that an application may run: its number, and the slots of its parameters with masks of their widths
pub record ActionSlots : Type 0 where
  pub number : ℕ
  pub params : List (ℕ × ℕ)

-- the same as the code has it
abbrev pub action_slots_of : code_action.ActionSlots → ActionSlots
action_slots_of a = record { number = a.number; params = a.params.items }

-- the application of a table: its number, the terms of its keys, and the actions that it may run
pub record Application : Type 0 where
  pub table : ℕ
  pub keys : List Typed
  pub actions : List ActionSlots

abbrev pub application_of : code_application.Application → Application
application_of a = record { table = a.table; keys = map typed_of a.keys.items; actions = map action_slots_of a.actions.items }

-- the slots of a header's fields: the first one, and how many
pub record HeaderSlots : Type 0 where
  pub first : ℕ
  pub count : ℕ

abbrev pub slots_of : code_slots.HeaderSlots → HeaderSlots
slots_of h = record { first = h.first; count = h.count }

-- where a word is written: a slot, of a header's field the number of the header, and as many ones as the width
pub record Target : Type 0 where
  pub slot : ℕ
  pub header : Option ℕ
  pub mask : ℕ

abbrev pub target_of : code_target.Target → Target
target_of t = record { slot = t.slot; header = t.header; mask = t.mask }

mutual
  -- a step: code, or a call that code has not
  pub data Step : Type 0 where
    plain : Code → Step
    group : Steps → Step
    branch : (test : Term) → (where_it_holds elsewhere : Step) → Step
    -- a call of an action: the slots of its parameters, the terms of its arguments, and its body
    calls : (slots : List ℕ) → (args : List Term) → (body : Steps) → Step
    -- the application of a table, with the bodies of its actions; behind it the one step where it hits, or where it
    -- misses, as is asked, and else the other
    applies : (bodies : Steps) → Application → (asked : Bool) → (where_it_is_so elsewhere : Step) → Step
    -- setValid and setInvalid
    makes : (header : ℕ) → HeaderSlots → (valid : Bool) → Step
    -- a register's read, and its write
    reads : (register : ℕ) → Target → (index : Term) → Step
    writes : (register : ℕ) → (index : Term) → (value : Typed) → Step
    -- digest
    tells : (receiver : ℕ) → List Typed → Step
    -- the checksum of some words: where a field holds another one, the slot of the error gets 1; and the field gets it
    verifies : List Typed → (field : Term) → (error : ℕ) → Step
    updates : List Typed → (field : Target) → Step

  -- steps one after the other
  pub data Steps : Type 0 where
    done : Steps
    next : Step → Steps → Steps

-- the same, of a list
abbrev pub steps_from : List Step → Steps
steps_from [] = done
steps_from (c ∷ cs) = next c (steps_from cs)

-- one node
abbrev pub step_layer : layer.Step-F Step → Step
step_layer (layer.Plain c) = plain (code_of c)
step_layer (layer.Group cs) = group (steps_from cs.items)
step_layer (layer.If t a b) = branch (term_of t) a.value b.value
step_layer (layer.Call is ts cs) = calls is.items (map term_of ts.items) (steps_from cs.items)
step_layer (layer.Apply cs x asked a b) = applies (steps_from cs.items) (application_of x) asked a.value b.value
step_layer (layer.Make n h valid) = makes n (slots_of h) valid
step_layer (layer.Read n t i) = reads n (target_of t) (term_of i)
step_layer (layer.Write n i v) = writes n (term_of i) (typed_of v)
step_layer (layer.Tell n ts) = tells n (map typed_of ts.items)
step_layer (layer.Verify ts f error) = verifies (map typed_of ts.items) (term_of f) error
step_layer (layer.Update ts t) = updates (map typed_of ts.items) (target_of t)

-- the same as the code has them
abbrev pub step_of : code_step.Step → Step
step_of = fold-Step Step step_layer

abbrev pub steps_of : List code_step.Step → Steps
steps_of cs = steps_from (map step_of cs)

-- ---- what steps work on

-- the slots with which headers are valid, the cells of the registers by their numbers, and the digests so far
pub record SlotRun : Type 0 where
  pub state : State
  pub cells : List (List Word)
  pub digests : List Digest

-- the same as the code has it
abbrev pub slot_run : code_state.State → code_externs.Externs → SlotRun
slot_run s x = record { state = state_of s; cells = x.registers.items; digests = map digest_of x.digests.items }

-- the run with other slots
abbrev pub in_state : SlotRun → State → SlotRun
in_state u s = record u { state = s }

-- a run, and how its last step ended
abbrev pub run_ended : SlotRun → Flow → SlotRun × Flow
run_ended u f = (u, f)

-- what follows is done where what was before did not leave
abbrev pub run_behind : Flow → SlotRun → (SlotRun → SlotRun × Flow) → SlotRun × Flow
run_behind Go u more = more u
run_behind Return u more = (u, Return)
run_behind Exit u more = (u, Exit)

-- the cells of the register of a number; of none there are none
abbrev pub numbered_cells : List (List Word) → ℕ → List Word
numbered_cells cells n = get_or cells n []

-- a number is written as far as the mask goes; to a field of an invalid header nothing is
abbrev pub stored : Target → ℕ → State → State
stored t v s = if codes.writes t.header s.valid then put s t.slot (bit_and v t.mask) else s

-- the words that terms give
abbrev pub words_at : State → List Typed → List Word
words_at s ts = map (key_word s) ts

-- the checksum of words
abbrev pub words_checksum : List Word → ℕ
words_checksum ws = checksum_of (bytes_of (words_bits ws))

-- where a number is another one than is wanted, the slot of the error gets 1
abbrev pub verified : (found wanted error : ℕ) → State → State
verified n w e s = if nat_eq n w then s else put s e 1

-- how a call of an action ends, by how its body ends
abbrev pub body_ended : SlotRun × Flow → SlotRun × Flow
body_ended x = (x.0, flow_behind x.1)

-- ---- what tables choose

-- how many of an application's actions stand before the first of a number
abbrev pub position : List ActionSlots → (number : ℕ) → ℕ
position [] n = 0
position (a ∷ as') n = if nat_eq a.number n then 0 else suc (position as' n)

-- the parameters of the first action of a number get words
abbrev pub bound_for : List ActionSlots → (number : ℕ) → List Word → State → State
bound_for [] n ws s = s
bound_for (a ∷ as') n ws s = if nat_eq a.number n then bind_words a.params ws s else bound_for as' n ws s

-- the action that is chosen, if it is one of the application's: its parameters get their words, and its body runs; nth is
-- what the bodies do by their places
abbrev pub chosen_run : (nth : ℕ → SlotRun → SlotRun × Flow) → List ActionSlots → NumberedOutcome → SlotRun → SlotRun × Flow
chosen_run nth as' p u = body_ended (nth (position as' p.action) (in_state u (bound_for as' p.action p.args u.state)))

-- what a table chooses, by the words of its keys
abbrev pub outcome_for : (chosen : ℕ → List Word → NumberedOutcome) → Application → State → NumberedOutcome
outcome_for chosen x s = chosen x.table (map (key_word s) x.keys)

-- ---- what they do

-- whether an application goes as it is asked for
abbrev pub is_asked : (asked hit : Bool) → Bool
is_asked asked hit = if asked then hit else not hit

-- what steps do, by what tables choose
module _ (chosen : ℕ → List Word → NumberedOutcome) where
  abbrev mutual
    -- what a step does, and how it ends; `return` ends the action that is called alone
    pub run : Step → SlotRun → SlotRun × Flow
    run (plain c) u = (in_state u (exec c u.state).0, (exec c u.state).1)
    run (group cs) u = run_all cs u
    run (branch t a b) u = if nat_eq (eval u.state.slots u.state.valid t) 1 then run a u else run b u
    run (calls is ts body) u = body_ended (run_all body (in_state u (bind is ts u.state)))
    run (applies bs x asked a b) u =
        run_behind (chosen_run (run_nth bs) x.actions (outcome_for chosen x u.state) u).1 (chosen_run (run_nth bs) x.actions (outcome_for chosen x u.state) u).0
        (λ z. if is_asked asked (outcome_for chosen x u.state).hit then run a z else run b z)
    run (makes n h valid) u = (in_state u (with_validity (valid_at u.state.valid n) valid n h.first h.count u.state), Go)
    run (reads n t i) u = (in_state u (stored t (cell_at (numbered_cells u.cells n) (eval u.state.slots u.state.valid i)).value u.state), Go)
    run (writes n i v) u = (record u { cells = slice_set u.cells n (cell_set (numbered_cells u.cells n) (eval u.state.slots u.state.valid i) (key_word u.state v)) }, Go)
    run (tells n ts) u = (record u { digests = u.digests ++ record { receiver = n; values = take 9 (words_at u.state ts) } ∷ [] }, Go)
    run (verifies ts f error) u = (in_state u (verified (eval u.state.slots u.state.valid f) (words_checksum (words_at u.state ts)) error u.state), Go)
    run (updates ts t) u = (in_state u (stored t (words_checksum (words_at u.state ts)) u.state), Go)

    -- what steps do one after the other
    pub run_all : Steps → SlotRun → SlotRun × Flow
    run_all done u = (u, Go)
    run_all (next c cs) u = run_behind (run c u).1 (run c u).0 (run_all cs)

    -- what one of some steps does, by how many stand before it; where it is none of them, nothing is done
    pub run_nth : Steps → ℕ → SlotRun → SlotRun × Flow
    run_nth done i u = (u, Go)
    run_nth (next c cs) zero u = run c u
    run_nth (next c cs) (suc i) u = run_nth cs i u

abbrev mutual
  -- each application of a step has so many keys at the most
  pub HasFewKeys : ℕ → Step → Type 0
  HasFewKeys n (plain c) = Unit {0}
  HasFewKeys n (group cs) = HaveFewKeys n cs
  HasFewKeys n (branch t a b) = HasFewKeys n a × HasFewKeys n b
  HasFewKeys n (calls is ts body) = HaveFewKeys n body
  HasFewKeys n (applies bs x asked a b) = (length x.keys ≤ n) × HaveFewKeys n bs × HasFewKeys n a × HasFewKeys n b
  HasFewKeys n (makes k h valid) = Unit {0}
  HasFewKeys n (reads k t i) = Unit {0}
  HasFewKeys n (writes k i v) = Unit {0}
  HasFewKeys n (tells k ts) = Unit {0}
  HasFewKeys n (verifies ts f error) = Unit {0}
  HasFewKeys n (updates ts t) = Unit {0}

  pub HaveFewKeys : ℕ → Steps → Type 0
  HaveFewKeys n done = Unit {0}
  HaveFewKeys n (next c cs) = HasFewKeys n c × HaveFewKeys n cs

abbrev mutual
  -- the most digests that a step gives, and some steps: of branches, and of the bodies of a table's actions, the greatest
  -- number counts
  pub most_told : Step → ℕ
  most_told (plain c) = 0
  most_told (group cs) = most_told_all cs
  most_told (branch t a b) = max (most_told a) (most_told b)
  most_told (calls is ts body) = most_told_all body
  most_told (applies bs x asked a b) = most_told_one bs + max (most_told a) (most_told b)
  most_told (makes k h valid) = 0
  most_told (reads k t i) = 0
  most_told (writes k i v) = 0
  most_told (tells k ts) = 1
  most_told (verifies ts f error) = 0
  most_told (updates ts t) = 0

  pub most_told_all : Steps → ℕ
  most_told_all done = 0
  most_told_all (next c cs) = most_told c + most_told_all cs

  -- the most that one of some steps gives
  pub most_told_one : Steps → ℕ
  most_told_one done = 0
  most_told_one (next c cs) = max (most_told c) (most_told_one cs)
