-- A network: its links, where its packets are, and what has happened in it so far. Read `Machine`
-- before it and `Events` after it.
use Rattle.std.specs.Prelude.{ℕ, ◌<◌, List, [], ◌∷◌, Bool, true, false, ◌&&◌, if◌then◌else◌, ◌==◌, is_none, Option, Some, None, All, count_by}
use Rattle.bit_values.specs.Bits.{Word}
use Rattle.network_run.specs.Machine.{Digest}

-- a link joins two ports, and carries frames both ways
pub record Link : Type 0 where
  pub one : ℕ
  pub one_port : ℕ
  pub other : ℕ
  pub other_port : ℕ

-- each switch has so many ports, numbered from 0 on: 511 as a port drops a packet
abbrev pub port_count : ℕ
port_count = 511

-- the wiring of a network: how many switches there are, numbered from 0 on, and the links
pub record Wiring : Type 0 where
  pub switches : ℕ
  pub links : List Link

-- the far end of a port among links, a switch and a port; a port without a link has none, and of two
-- links at a port the first counts
abbrev pub far_end_among : List Link → (switch port : ℕ) → Option (ℕ × ℕ)
far_end_among [] switch port = None
far_end_among (l ∷ ls) switch port =
    if switch == l.one && port == l.one_port
    then Some (l.other, l.other_port)
    else (
    if switch == l.other && port == l.other_port
    then Some (l.one, l.one_port)
    else far_end_among ls switch port)

-- the far end of a port
abbrev pub far_end : Wiring → (switch port : ℕ) → Option (ℕ × ℕ)
far_end net switch port = far_end_among net.links switch port

-- an edge port is a port without a link
abbrev pub at_edge : Wiring → (switch port : ℕ) → Bool
at_edge net switch port = is_none (far_end net switch port)

-- the link's ends are ports of switches of the network
pub record IsLinkOf (net : Wiring) (l : Link) : Type 0 where
  pub one : l.one < net.switches
  pub one_port : l.one_port < port_count
  pub other : l.other < net.switches
  pub other_port : l.other_port < port_count

-- each link joins ports of switches of the network
abbrev pub IsWiring : Wiring → Type 0
IsWiring net = All (IsLinkOf net) net.links

-- where a packet is: in flight to a port of a switch, queued between the two halves of its passage
-- of a switch, to which it came by a port, or at its end. `passed` is the number of switches passed
-- so far
pub data Place (Q : Type 0) : Type 0 where
  Flying : (switch port : ℕ) → (frame : List ℕ) → (passed : ℕ) → Place Q
  Waiting : (switch port : ℕ) → Q → (passed : ℕ) → Place Q
  Over : Place Q

-- a frame that a switch sent by a port
pub record Sent : Type 0 where
  pub packet : ℕ
  pub switch : ℕ
  pub port : ℕ
  pub frame : List ℕ

-- a frame that was put on a link. `half` is the place in the log of the exit half that sent it
pub record Wired : Type 0 where
  pub half : ℕ
  pub sent : Sent

-- a digest, with the packet and the switch that it comes from
pub record Told : Type 0 where
  pub packet : ℕ
  pub switch : ℕ
  pub digest : Digest

-- a half in the log: whether it is an exit half, of which packet, at which switch, whether the
-- passage began at an edge port, whether the half sends the packet to one, what the header
-- variables read there, and what the control variables of the switch contained at that moment
pub record Half (C : Type 0) : Type 0 where
  pub is_exit : Bool
  pub packet : ℕ
  pub switch : ℕ
  pub first : Bool
  pub last : Bool
  pub view : List Word
  pub contents : ℕ → C

-- a network at a moment: what each switch keeps, the contents of its control variables and the
-- place of each packet; and what happened so far, in the order of events: the halves, the frames
-- put on links, the frames that left by edge ports, the digests, and the packets that were dropped
-- and lost
pub record Net (S Q C : Type 0) : Type 0 where
  pub switches : ℕ → S
  pub contents : (switch variable : ℕ) → C
  pub packets : ℕ → Place Q
  pub log : List (Half C)
  pub wires : List Wired
  pub edges : List Sent
  pub told : List Told
  pub dropped : List ℕ
  pub lost : List ℕ

-- how often packet i stands in a list
abbrev pub times : ℕ → List ℕ → ℕ
times i packets = count_by (λ j. j == i) packets

-- 1 where the test holds, and else 0
abbrev pub one_if : Bool → ℕ
one_if true = 1
one_if false = 0
