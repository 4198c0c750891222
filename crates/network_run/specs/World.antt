-- A world, which is all that a run is handed besides the network and the programs, and the run in
-- it. Read `PathMeaning` before it and `linkage`'s `Linkage` after it.
use Rattle.std.specs.Prelude.{◌≡◌, ℕ, ◌+◌, ◌<◌, ◌≤◌, List, [], ◌++◌, length, take, true, slice_get, Option, Some, None, All}
use Rattle.network_run.specs.Machine.{Machine}
use Rattle.network_run.specs.Network.{Wiring, at_edge, Place, Flying, Over, Net, port_count}
use Rattle.network_run.specs.Events.{Event, Enter, Leave, Set, closing}
use Rattle.network_run.specs.NetworkRun.{Limits, longest_frame, run_of_halves}

-- a packet at the start: the switch and edge port to which it comes, and its frame
pub record Arrival : Type 0 where
  pub switch : ℕ
  pub port : ℕ
  pub frame : List ℕ

-- how many switches a packet may pass, the forwarding entries and the control contents of each
-- switch, the packets, and the schedule
pub record World (E C : Type 0) : Type 0 where
  pub hops : ℕ
  pub entries : (switch : ℕ) → E
  pub contents : (switch variable : ℕ) → C
  pub packets : List Arrival
  pub events : List (Event C)

-- the packet comes to an edge port of the network, with a frame of at most 65,535 bytes
pub record IsArrival (net : Wiring) (a : Arrival) : Type 0 where
  pub switch : a.switch < net.switches
  pub port : a.port < port_count
  pub edge : at_edge net a.switch a.port ≡ true
  pub short : length a.frame ≤ longest_frame

-- what is set is a variable, and the new contents fit it
abbrev pub IsFitEvent :
    {C : Type 0} → (IsVariable : ℕ → Type 0) → ((switch variable : ℕ) → C → Type 0) → Event C →
    Type 0
IsFitEvent IsVariable IsFitContents (Enter i) = Unit {0}
IsFitEvent IsVariable IsFitContents (Leave i) = Unit {0}
IsFitEvent IsVariable IsFitContents (Set s v c) = IsVariable v × IsFitContents s v c

-- a valid world: a packet may pass a switch, entries and the contents of variables are of the
-- shapes that the programs and the property ask for, and the packets come to edge ports. IsVariable
-- says which numbers name a control variable of the property
pub record IsValid
    {E C : Type 0} (net : Wiring) (IsFitEntries : (switch : ℕ) → E → Type 0)
    (IsVariable : ℕ → Type 0) (IsFitContents : (switch variable : ℕ) → C → Type 0)
    (w : World E C)
    : Type 0 where
  pub hops : 0 < w.hops
  pub entries : (s : ℕ) → s < net.switches → IsFitEntries s (w.entries s)
  pub contents :
      (s v : ℕ) → s < net.switches → IsVariable v → IsFitContents s v (w.contents s v)
  pub packets : All (IsArrival net) w.packets
  pub events : All (IsFitEvent IsVariable IsFitContents) w.events

-- the schedule's events, and then the closing phase, in which packets 0, 1, 2 and so on each go on
-- to their ends
abbrev pub steps : {E C : Type 0} → World E C → List (Event C)
steps w = w.events ++ closing w.hops 0 (length w.packets)

-- a packet is in flight from the start
abbrev pub first_place : {Q : Type 0} → Option Arrival → Place Q
first_place None = Over
first_place (Some a) = Flying a.switch a.port a.frame 0

-- the network before the first event
abbrev pub first_net : {E S Q C : Type 0} → Machine E S Q C → World E C → Net S Q C
first_net m w =
    record {
      switches = λ s. m.start s (w.entries s) (w.contents s);
      contents = w.contents;
      packets = λ i. first_place (slice_get w.packets i);
      log = [];
      wires = [];
      edges = [];
      told = [];
      dropped = [];
      lost = [];
    }

-- the limits of a world, on whose links a frame may be longer by so many bytes of telemetry
abbrev pub limits_of : {E C : Type 0} → World E C → (telemetry : ℕ) → Limits
limits_of w telemetry = record { hops = w.hops; link = longest_frame + telemetry }

-- the network after the first n steps
abbrev pub net_after :
    {E S Q C : Type 0} → Machine E S Q C → Wiring → (telemetry : ℕ) → World E C → (n : ℕ) →
    Net S Q C
net_after m net telemetry w n =
    run_of_halves m net (limits_of w telemetry) (first_net m w) (take n (steps w))

-- the network after all steps
abbrev pub net_at_end :
    {E S Q C : Type 0} → Machine E S Q C → Wiring → (telemetry : ℕ) → World E C → Net S Q C
net_at_end m net telemetry w =
    run_of_halves m net (limits_of w telemetry) (first_net m w) (steps w)
