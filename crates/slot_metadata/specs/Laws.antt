-- Slots follow the stores of a passage outside of its parser and its controls. Read `Metadata` before it, `ProgramPlaces` of
-- `slot_places` and `Queued` of `slot_packets`.
use Rattle.std.specs.Prelude.{◌≡◌, ℕ, length}
use Rattle.bit_values.specs.Bits.{cast}
use Rattle.p4_meaning.specs.Standard.{egress_port}
use Rattle.p4_meaning.specs.Store.{Store}
use Rattle.p4_meaning.specs.Parsing.{ParserEnd}
use Rattle.p4_meaning.specs.Parts.{Parts}
use Rattle.p4_meaning.specs.Pass.{store_before, store_behind, is_dropped, to_egress}
use Rattle.slot_terms.specs.Places.{Places, Follows}
use Rattle.slot_terms.specs.States.{State}
use Rattle.slot_packets.specs.Queued.{store_in}
use Rattle.slot_places.specs.ProgramPlaces.{ArePlaced}
use Rattle.slot_metadata.specs.Metadata.{started, with_error, drops, turned, port_of}

-- the slots follow a store by places
abbrev pub FollowsIn : Places → State → Store → Type 0
FollowsIn m s t = Follows m s.slots s.valid t

-- what slots hold as a store is what they follow
abbrev pub IsStored : Places → State → Type 0
IsStored m s = FollowsIn m s (store_in m s.slots s.valid)

-- before the parser
abbrev pub StartsFollow : Type 0
StartsFollow = (p : Parts) (room : ℕ) (m : Places) (port len : ℕ) (s : State) → ArePlaced p room m → length s.slots ≡ m.size → FollowsIn m (started port len s) (store_before p port len)

-- behind the parser
abbrev pub ErrorsFollow : Type 0
ErrorsFollow = (p : Parts) (room : ℕ) (m : Places) (s : State) (e : ParserEnd) → ArePlaced p room m → FollowsIn m s e.reading.store → FollowsIn m (with_error e.error s) (store_behind e)

-- a packet is dropped where the store says so
abbrev pub DropsAgree : Type 0
DropsAgree = (p : Parts) (room : ℕ) (m : Places) (s : State) (t : Store) → ArePlaced p room m → FollowsIn m s t → is_dropped t ≡ drops s

-- what waits for egress is the slots' own store, which the slots follow
pub record Waits (p : Parts) (m : Places) (s : State) (t : Store) : Type 0 where
  pub is : to_egress p t ≡ store_in m s.slots s.valid
  pub stored : IsStored m s

abbrev pub TurnsWait : Type 0
TurnsWait = (p : Parts) (room : ℕ) (m : Places) (s : State) (t : Store) → ArePlaced p room m → FollowsIn m s t → Waits p m (turned s) t

-- the port by which a packet leaves is that of the store
abbrev pub PortsAgree : Type 0
PortsAgree = (p : Parts) (room : ℕ) (m : Places) (s : State) (t : Store) → ArePlaced p room m → FollowsIn m s t → cast 9 (t.values egress_port).value ≡ port_of s
