-- What a net holds, and the networks of the definition that it stands for. Read `Programs` of switch_machines before
-- it, `Network` and `NetworkRun` of the network's run, and `Maps` and `Numbers` of control_maps.
use Rattle.std.specs.Prelude.{◌≡◌, ◌≢◌, ℕ, List, [], length, map, get_or, slice_get, slice_set, Option, Some, None}
use Rattle.p4_tree.specs.Tree.{Program}
use Rattle.p4_meaning.specs.Parts.{parts_of}
use Rattle.p4_meaning.specs.Pass.{Registers, Kept, Queued}
use Rattle.p4_tables.specs.State.{Held}
use Rattle.p4_tables.specs.Named.{tables_in}
use Rattle.p4_tables.specs.Programs.{shapes}
use Rattle.indus_tree.specs.State.{Contents}
use Rattle.network_run.specs.Events.{Event, Enter, Leave, Set}
use Rattle.network_run.specs.Network.{Place, Over, Sent, Told, Net}
use Rattle.network_run.specs.NetworkRun.{Limits, run_of_halves}
use Rattle.network_file.specs.Network.{Network}
use Rattle.network_file.specs.Wiring.{wiring_of}
use Rattle.switch_machines.specs.Programs.{Controls, Programs, machine_with}
use Rattle.control_maps.specs.Maps.{Lookup, map_controls}
use Rattle.control_maps.specs.Numbers.{Numbered, named_in, set_in}
pub use Rattle.set_contents.specs.Others.{IsOther, OthersHold}

-- a switch: its program, what its tables hold by their numbers, and the cells of its registers
pub record Switch : Type 0 where
  pub program : Program
  pub tables : List Held
  pub cells : Registers

-- what it keeps from packet to packet
abbrev pub kept_of : Switch → Kept
kept_of x = record { registers = x.cells; tables = tables_in (parts_of x.program) x.tables }

-- what has happened so far, in the order of events: the frames put on links, those that left by edge ports, the digests,
-- and how many packets were dropped and lost
pub record Traffic : Type 0 where
  pub wires : List Sent
  pub edges : List Sent
  pub told : List Told
  pub dropped : ℕ
  pub lost : ℕ

abbrev pub no_traffic : Traffic
no_traffic = record { wires = []; edges = []; told = []; dropped = 0; lost = 0 }

-- a network with its limits, its switches, for each of them the map of its tables that hold control variables, the places
-- of its packets, and what has happened in it
pub record State : Type 0 where
  pub network : Network
  pub limits : Limits
  pub switches : List Switch
  pub maps : List (List Numbered)
  pub places : List (Place Queued)
  pub traffic : Traffic

-- the switches run these programs, and keep this
pub record AreSwitches (p : Programs) (keeps : ℕ → Kept) (xs : List Switch) : Type 0 where
  pub programs : (i : ℕ) (x : Switch) → slice_get xs i ≡ Some x → p.program i ≡ parts_of x.program
  pub kept : (i : ℕ) (x : Switch) → slice_get xs i ≡ Some x → keeps i ≡ kept_of x

-- the state stands for a network of the definition, all but its log and the contents of control variables. A packet that
-- is not there is at its end
pub record Shows (p : Programs) (s : State) (w : Net Kept Queued Contents) : Type 0 where
  pub switches : AreSwitches p w.switches s.switches
  pub packets : (i : ℕ) → w.packets i ≡ get_or s.places i Over
  pub wires : map (λ x. x.sent) w.wires ≡ s.traffic.wires
  pub edges : w.edges ≡ s.traffic.edges
  pub told : w.told ≡ s.traffic.told
  pub dropped : length w.dropped ≡ s.traffic.dropped
  pub lost : length w.lost ≡ s.traffic.lost

-- ---- what events do

-- the map of a switch by the names of its program; without a switch there is none
abbrev pub lookups_of : Option Program → List Numbered → List Lookup
lookups_of None ns = []
lookups_of (Some p) ns = map (named_in (parts_of p)) ns

-- what the maps say of each switch, where switches run these programs
abbrev pub controls_in : List Program → List (List Numbered) → (switch : ℕ) → Controls Contents
controls_in ps maps k = map_controls (lookups_of (slice_get ps k) (get_or maps k []))

abbrev pub controls_of : State → (switch : ℕ) → Controls Contents
controls_of s = controls_in (map (λ x. x.program) s.switches) s.maps

-- the network of the definition after events
abbrev pub run_in : Programs → State → Net Kept Queued Contents → List (Event Contents) → Net Kept Queued Contents
run_in p s w es = run_of_halves (machine_with (controls_of s) p) (wiring_of s.network) s.limits w es

-- whatever network one state stands for before the events, the other stands for behind them
abbrev pub RunsTo : State → List (Event Contents) → State → Type 0
RunsTo s es t = (p : Programs) (w : Net Kept Queued Contents) → Shows p s w → Shows p t (run_in p s w es)

-- what the tables of each switch hold
abbrev pub tables_of : State → List (List Held)
tables_of s = map (λ x. x.tables) s.switches

-- and after an event: new contents stand in each table of their variable at their switch
abbrev pub tables_after : State → Event Contents → List (List Held)
tables_after s (Enter i) = tables_of s
tables_after s (Leave i) = tables_of s
tables_after s (Set k v c) = slice_set (tables_of s) k (set_in (get_or s.maps k []) v c (get_or (tables_of s) k []))

-- ---- what stays

-- the same network, and switches that run the same programs with tables of the same shapes
pub record AreKept (s t : State) : Type 0 where
  pub network : t.network ≡ s.network
  pub programs : map (λ x. x.program) t.switches ≡ map (λ x. x.program) s.switches
  pub shapes : map (λ x. shapes x.tables) t.switches ≡ map (λ x. shapes x.tables) s.switches

-- the same maps, limits and number of packets, too
pub record IsSame (s t : State) : Type 0 where
  pub kept : AreKept s t
  pub maps : t.maps ≡ s.maps
  pub limits : t.limits ≡ s.limits
  pub packets : length t.places ≡ length s.places

-- at most the tables of a variable of one switch hold something else
pub record OthersStay (ns : List Numbered) (k v : ℕ) (old now : List (List Held)) : Type 0 where
  pub switches : (j : ℕ) → j ≢ k → slice_get now j ≡ slice_get old j
  pub tables : OthersHold ns v (get_or old k []) (get_or now k [])

-- what an event leaves of the tables, also where memory runs out: halves change none, and new contents none but those of
-- their variable
abbrev pub LeavesTables : Event Contents → State → State → Type 0
LeavesTables (Enter i) s t = tables_of t ≡ tables_of s
LeavesTables (Leave i) s t = tables_of t ≡ tables_of s
LeavesTables (Set k v c) s t = OthersStay (get_or s.maps k []) k v (tables_of s) (tables_of t)
