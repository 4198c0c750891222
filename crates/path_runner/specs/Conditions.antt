-- What is asked of what is handed in. Read `Nets` before it.
use Rattle.std.specs.Prelude.{◌≡◌, ◌<◌, ◌≤◌, ℕ, List, [], ◌∷◌, length, get_or, slice_get, Some, true, All}
use Rattle.p4_meaning.specs.Parts.{parts_of}
use Rattle.p4_machine.specs.Buffers.{Buffer, IsMadeFor}
use Rattle.indus_tree.specs.State.{Contents}
use Rattle.network_run.specs.Events.{Event, Enter, Leave, Set}
use Rattle.network_run.specs.Network.{at_edge}
use Rattle.network_run.specs.NetworkRun.{Limits}
use Rattle.network_run.specs.World.{Arrival}
use Rattle.network_file.specs.Network.{Network, last_port}
use Rattle.network_file.specs.Wiring.{wiring_of}
use Rattle.control_maps.specs.Numbers.{Numbered, IsMapOf, IsSettable}
use Rattle.path_runner.specs.Nets.{Switch, State, tables_of}

-- the greatest number of packets
abbrev pub most_packets : ℕ
most_packets = 100000

-- the longest frame that a switch takes, in bytes
abbrev pub most_bytes : ℕ
most_bytes = 65791

-- the packet stands at an edge port of the network, with a frame that links carry
pub record IsAtEdge (n : Network) (limit : ℕ) (a : Arrival) : Type 0 where
  pub switch : a.switch < length n.names
  pub port : a.port ≤ last_port
  pub edge : at_edge (wiring_of n) a.switch a.port ≡ true
  pub short : length a.frame ≤ limit

-- a buffer for each switch, which was made for its program
abbrev pub AreFor : List Switch → List Buffer → Type 0
AreFor [] [] = Unit {0}
AreFor [] (b ∷ bs) = ⊥
AreFor (x ∷ xs) [] = ⊥
AreFor (x ∷ xs) (b ∷ bs) = IsMadeFor x.program b.needs × AreFor xs bs

-- each map is one of the tables of its switch
abbrev pub AreMapped : List Switch → List (List Numbered) → Type 0
AreMapped xs maps = (k : ℕ) (x : Switch) → slice_get xs k ≡ Some x → IsMapOf (parts_of x.program) x.tables (get_or maps k [])

-- what a net is made of: a switch, with a buffer, for each switch of the network; for each the map of its tables that hold
-- control variables; the packets, and the limits
pub record IsHandedIn
    (n : Network) (l : Limits) (xs : List Switch) (bufs : List Buffer) (maps : List (List Numbered)) (arrivals : List Arrival)
    : Type 0 where
  pub switches : length xs ≡ length n.names
  pub buffers : AreFor xs bufs
  pub lists : length maps ≡ length n.names
  pub mapped : AreMapped xs maps
  pub few : length arrivals ≤ most_packets
  pub packets : All (IsAtEdge n l.link) arrivals
  pub hops : 1 ≤ l.hops
  pub link : l.link ≤ most_bytes

-- the event's packet is there; or its switch, each table of the variable takes the new contents, and with them the switch's
-- tables hold few entries
abbrev pub IsEvent : State → Event Contents → Type 0
IsEvent s (Enter i) = i < length s.places
IsEvent s (Leave i) = i < length s.places
IsEvent s (Set k v c) = (k < length s.switches) × IsSettable (get_or (tables_of s) k []) (get_or s.maps k []) v c
