-- The relation between the two networks and the path meaning.
--
-- A packet in flight is at the same port in both, after the same number of switches; its linked
-- frame is the plain frame, behind the telemetry on a link. Queued packets are related as the
-- linker says. What switches keep is related as the linker says. And both have shown so far what a
-- linkage asks for.
use Rattle.std.proofs.Common.{◌≡◌, ℕ, ◌+◌, ◌<◌, ◌≤◌, List, length, Bool, true, Option, None}
use Rattle.std.specs.List.{AllByRecursion}
use Rattle.network_run.specs.Network.{Wiring, at_edge, Place, Flying, Waiting, Over, Net, port_count}
use Rattle.network_run.specs.NetworkRun.{Limits, longest_frame}
use Rattle.network_run.specs.PathMeaning.{Property, Path}
use Rattle.network_run.specs.RunLaws.{IsOver}
use Rattle.linkage.specs.Linkage.{Telemetry}
use Rattle.linkage.specs.HalvesLaws.{carried}
use Rattle.linkage.proofs.Moment.{Shows}

module _ {S Q S' Q' C T Z : Type 0} (net : Wiring) (p : Property T Z C) (telemetry : Telemetry T) (Kept : ℕ → S → Z → (ℕ → C) → ℕ → S' → Type 0) (Held : ℕ → Bool → Q → T → Q' → Type 0) (Fit : T → Type 0) where
  -- a packet that is in flight in both networks: t are its tele values and v the verdict on it
  pub record SameFlight (t : T) (v : Option Bool) (s port : ℕ) (f : List ℕ) (n s' port' : ℕ) (f' : List ℕ) (n' : ℕ) : Type 0 where
    pub known : s < net.switches
    pub low : port < port_count
    pub fit : Fit t
    pub switch : s' ≡ s
    pub by : port' ≡ port
    pub frame : f' ≡ carried telemetry (at_edge net s port) t f
    pub passed : n' ≡ n
    pub fresh : at_edge net s port ≡ true → t ≡ p.tele
    pub short : length f ≤ longest_frame
    pub unheard : v ≡ None

  -- a packet that is queued in both
  pub record SameWait (t : T) (v : Option Bool) (s port : ℕ) (q : Q) (n s' port' : ℕ) (q' : Q') (n' : ℕ) : Type 0 where
    pub known : s < net.switches
    pub switch : s' ≡ s
    pub by : port' ≡ port
    pub held : Held s (at_edge net s port) q t q'
    pub passed : n' ≡ n
    pub unheard : v ≡ None

  abbrev pub SamePlace : T → Option Bool → Place Q → Place Q' → Type 0
  SamePlace t v (Flying s port f n) (Flying s' port' f' n') = SameFlight t v s port f n s' port' f' n'
  SamePlace t v (Waiting s port q n) (Waiting s' port' q' n') = SameWait t v s port q n s' port' q' n'
  SamePlace t v Over Over = Unit {0}
  SamePlace t v (Flying s port f n) (Waiting s' port' q' n') = ⊥
  SamePlace t v (Flying s port f n) Over = ⊥
  SamePlace t v (Waiting s port q n) (Flying s' port' f' n') = ⊥
  SamePlace t v (Waiting s port q n) Over = ⊥
  SamePlace t v Over (Flying s' port' f' n') = ⊥
  SamePlace t v Over (Waiting s' port' q' n') = ⊥

  -- what holds at each moment between the plain network a, the linked network b and the path
  -- meaning w
  pub record Agrees (a : Net S Q C) (b : Net S' Q' C) (w : Path T Z) : Type 0 where
    pub switches : (s : ℕ) → s < net.switches → Kept s (a.switches s) (w.sensors s) (a.contents s) (w.rejected_at s) (b.switches s)
    pub places : (i : ℕ) → SamePlace (w.tele i) (w.verdicts i) (a.packets i) (b.packets i)
    pub shows : Shows p telemetry a b w
    pub trail : length w.trail ≡ length a.log
    pub wires_below : AllByRecursion (λ x. x.half < length w.trail) a.wires
    pub edges_over : AllByRecursion (λ x. IsOver (a.packets x.packet)) a.edges
    pub lost_over : AllByRecursion (λ i. IsOver (a.packets i)) a.lost

-- the limits of the plain network, and of the linked one
abbrev pub plain_limits : ℕ → Limits
plain_limits hops = record { hops = hops; link = longest_frame }

abbrev pub linked_limits : (hops size : ℕ) → Limits
linked_limits hops size = record { hops = hops; link = longest_frame + size }
