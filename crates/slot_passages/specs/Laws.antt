-- The halves of a passage over slots do what those of the trees' meaning do. Read `Programs` before it, and `Pass` of the
-- trees' meaning.
use Rattle.std.specs.Prelude.{◌≡◌, ℕ, List, [], length, Option, Some, None}
use Rattle.std.specs.Option.{option_map}
use Rattle.bit_values.specs.Bits.{Word}
use Rattle.p4_meaning.specs.Statements.{Run}
use Rattle.p4_meaning.specs.Tables.{Tables}
use Rattle.p4_meaning.specs.Parts.{Cells, Parts}
use Rattle.p4_meaning.specs.Pass.{Registers, Queued, Entered, Going, Leaving, parts_enter, parts_leave}
use Rattle.slot_terms.specs.Places.{Places}
use Rattle.slot_terms.specs.States.{State}
use Rattle.slot_statements.specs.Tables.{NumberedOutcome}
use Rattle.slot_packets.specs.Queued.{store_in}
use Rattle.slot_controls.specs.Steps.{SlotRun}
use Rattle.slot_controls.specs.Callees.{AreCells}
use Rattle.slot_metadata.specs.Laws.{FollowsIn, IsStored}
use Rattle.slot_passages.specs.Codes.{ProgramCode}
use Rattle.slot_passages.specs.Halves.{SlotEntered, SlotLeft, enter, leave}
use Rattle.slot_passages.specs.Programs.{IsProgramCode}

-- there are as many slots as the places say, and it is known of each header whether it is valid
pub record HasSize (m : Places) (s : State) : Type 0 where
  pub slots : length s.slots ≡ m.size
  pub valid : length s.valid ≡ length m.headers

-- before a half: registers by their numbers hold what they hold by their names, and no digest has been given
pub record Begins (rs : List Cells) (m : Places) (u : SlotRun) (named : Registers) : Type 0 where
  pub size : HasSize m u.state
  pub cells : AreCells rs u.cells named
  pub digests : u.digests ≡ []

-- a run over slots, and a run of the trees' meaning
pub record AreAlike (rs : List Cells) (m : Places) (u : SlotRun) (r : Run) : Type 0 where
  pub follows : FollowsIn m u.state r.store
  pub valid : length u.state.valid ≡ length m.headers
  pub cells : AreCells rs u.cells r.cells
  pub digests : u.digests ≡ r.digests

-- what waits: slots as a store, and the bits that the parser left
abbrev pub queued_in : Places → State → Option (List ℕ) → Option Queued
queued_in m s rest = option_map (λ bits. record { store = store_in m s.slots s.valid; rest = bits }) rest

-- what is queued can be taken up again
abbrev pub IsQueued : Places → State → Option (List ℕ) → Type 0
IsQueued m s None = Unit {0}
IsQueued m s (Some rest) = IsStored m s

-- the entry half ends alike
pub record EntersAlike (p : Parts) (m : Places) (x : SlotEntered) (e : Entered) : Type 0 where
  pub size : HasSize m x.run.state
  pub cells : AreCells p.registers x.run.cells e.registers
  pub digests : x.run.digests ≡ e.digests
  pub queued : queued_in m x.run.state x.rest ≡ e.queued
  pub stored : IsQueued m x.run.state x.rest

-- the port and the frame of a packet that goes
abbrev pub port_and_frame : Going → ℕ × List ℕ
port_and_frame g = (g.port, g.frame)

-- the exit half ends alike
pub record LeavesAlike (p : Parts) (m : Places) (x : SlotLeft) (e : Leaving) : Type 0 where
  pub size : HasSize m x.run.state
  pub cells : AreCells p.registers x.run.cells e.registers
  pub digests : x.run.digests ≡ e.digests
  pub going : x.going ≡ option_map port_and_frame e.going

-- by the code of a program the entry half over slots is that of the trees' meaning
abbrev pub EntriesAgree : Type 0
EntriesAgree =
    (p : Parts) (room : ℕ) (m : Places) (held : Tables) (chosen : ℕ → List Word → NumberedOutcome) (c : ProgramCode) → IsProgramCode p room m held chosen c
    → (port : ℕ) (frame : List ℕ) (u : SlotRun) (cells : Registers) → Begins p.registers m u cells → EntersAlike p m (enter chosen c port frame u) (parts_enter p held cells port frame)

-- and the exit half that of what waits
abbrev pub ExitsAgree : Type 0
ExitsAgree =
    (p : Parts) (room : ℕ) (m : Places) (held : Tables) (chosen : ℕ → List Word → NumberedOutcome) (c : ProgramCode) → IsProgramCode p room m held chosen c
    → (rest : List ℕ) (u : SlotRun) (cells : Registers) → Begins p.registers m u cells → IsStored m u.state
    → LeavesAlike p m (leave chosen c rest u) (parts_leave p held cells (record { store = store_in m u.state.slots u.state.valid; rest = rest }))
