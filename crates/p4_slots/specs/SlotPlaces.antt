-- What waits in slots. Read `ProgramPlaces` of `slot_places` before it, `Room` of `slot_programs`, `Queued` of `slot_packets`
-- and `Buffers` of `p4_machine`; `Machines` after it.
use Rattle.std.specs.Prelude.{ℕ, ◌+◌, List, map, drop, Bool, Option, Some, None, if◌then◌else◌}
use Rattle.bit_values.specs.Bytes.{bits_of}
use Rattle.p4_tree.specs.View.{program_of}
use Rattle.p4_tree.specs.declared.program.Program.{Program}
use Rattle.p4_meaning.specs.Parts.{Parts, parts_of}
use Rattle.p4_meaning.specs.Pass.{Queued}
use Rattle.p4_parts.specs.Slots.{slots_in}
use Rattle.p4_machine.specs.Buffers.{Place}
use Rattle.slot_terms.specs.Places.{Places}
use Rattle.slot_terms.specs.States.{State, state_of}
use Rattle.slot_packets.specs.Queued.{store_in}
use Rattle.slot_places.specs.ProgramRows.{path_in, program_rows}
use Rattle.slot_programs.specs.Room.{room_of}
use Rattle.p4_slots.specs.declared.place.SlotQueued.TheInside.{Inside}

-- the places of a program's paths, with room for its variables
abbrev pub places_for : Parts → Places
places_for p = record { rows = program_rows p; headers = map path_in p.headers; next = slots_in p; size = slots_in p + room_of p }

-- a place of slots: the program that it was made for, for how many bytes of rest it has room, the slots, the bytes that the
-- parser left with how many bits of the first it had taken, and whether a packet waits
pub record SlotPlace : Type 0 where
  pub program : Program
  pub room : ℕ
  pub state : State
  pub rest : List ℕ
  pub skip : ℕ
  pub full : Bool

abbrev pub slot_place_of : Inside → SlotPlace
slot_place_of q = record { program = q.plan.value.program; room = q.room; state = state_of q.state; rest = q.rest.items; skip = q.skip; full = q.full }

-- slots with a rest as what is queued, by the places of a program
abbrev pub queued_by : Program → State → (rest : List ℕ) → Queued
queued_by p s rest = record { store = store_in (places_for (parts_of (program_of p))) s.slots s.valid; rest = rest }

-- what waits
abbrev pub waiting_in : SlotPlace → Option Queued
waiting_in q = if q.full then Some (queued_by q.program q.state (drop q.skip (bits_of q.rest))) else None

-- the same as a place
abbrev pub place_in : SlotPlace → Place
place_in q = record { program = program_of q.program; room = q.room; waiting = waiting_in q }
