-- What a linker has to show of the two halves of a linked passage, and of little else: from these
-- laws the linkage follows over every schedule. Read `Linkage` before it.
use Rattle.std.specs.Prelude.{◌≡◌, ℕ, ◌+◌, ◌<◌, ◌≤◌, List, [], ◌++◌, length, map, filter, Bool, true, false, not, Option, Some, None}
use Rattle.network_run.specs.Machine.{Digest, Entered, Going, Leaving, Machine}
use Rattle.network_run.specs.Network.{Wiring, at_edge, one_if, port_count}
use Rattle.network_run.specs.NetworkRun.{put, longest_frame}
use Rattle.network_run.specs.PathMeaning.{Report, Doing, Property, reads_at, entry_part, exit_part}
use Rattle.linkage.specs.Linkage.{Telemetry, RegisterReading, SameRegisters, MonitorRegisters, is_report, report_digest}

-- a plain frame as the linked network has it: at an edge port as it is, on a link behind the
-- telemetry
abbrev pub carried : {T : Type 0} → Telemetry T → (edge : Bool) → T → List ℕ → List ℕ
carried telemetry true tele frame = frame
carried telemetry false tele frame = telemetry.bytes tele ++ frame

-- the digests of a linked half: the reports, and else the digests of the forwarding half
pub record SameDigests (plain linked : List Digest) (reported : List Report) : Type 0 where
  pub reports : filter is_report linked ≡ map report_digest reported
  pub others : filter (λ d. not (is_report d)) linked ≡ plain

-- both halves drop the packet, or both queue it and the queued packets are related
abbrev pub SameQueued : {Q Q' : Type 0} → (Q → Q' → Type 0) → Option Q → Option Q' → Type 0
SameQueued R None None = Unit {0}
SameQueued R None (Some q') = ⊥
SameQueued R (Some q) None = ⊥
SameQueued R (Some q) (Some q') = R q q'

-- a rejected packet goes nowhere; any other goes by the same port, with its frame as the linked
-- network has it there
abbrev pub SameGoing :
    {T : Type 0} → Telemetry T → (edge rejected : Bool) → T → Going → Option Going → Type 0
SameGoing telemetry edge true tele g None = Unit {0}
SameGoing telemetry edge true tele g (Some g') = ⊥
SameGoing telemetry edge false tele g None = ⊥
SameGoing telemetry edge false tele g (Some g') =
    (g'.port ≡ g.port) × (g'.frame ≡ carried telemetry edge tele g.frame)

-- The two relations are the linker's own. `Kept s a z c k b`: what switch s keeps in the linked
-- network, b, stands for what it keeps in the forwarding network, a, for the sensors z, the control
-- contents c and k rejected packets. `Held s first q t q'`: the queued packet q' of the linked
-- network stands for q and for the tele values t, where the packet came by an edge port if `first`
-- is true. `IsFitTele` says which tele values can come back from their bytes.
module _
    {S Q S' Q' C T Z : Type 0} (net : Wiring) (p : Property T Z C) (telemetry : Telemetry T)
    (Kept : (switch : ℕ) → S → Z → (ℕ → C) → (rejected : ℕ) → S' → Type 0)
    (Held : (switch : ℕ) → (first : Bool) → Q → T → Q' → Type 0)
    (IsFitTele : T → Type 0)
  where
    -- the linked entry half does what the forwarding one does, and the entry part
    pub record EnterAgrees
        (s : ℕ) (first : Bool) (c : ℕ → C) (k : ℕ) (d : Doing T Z) (e : Entered S Q)
        (e' : Entered S' Q')
        : Type 0 where
      pub kept : Kept s e.after d.sensors c k e'.after
      pub queued : SameQueued (λ q q'. Held s first q d.tele q') e.queued e'.queued
      pub digests : SameDigests e.digests e'.digests d.reports

    -- where the forwarding exit half drops the packet, the linked one does so and does nothing else
    pub record DropAgrees
        (s : ℕ) (c : ℕ → C) (k : ℕ) (z : Z) (l : Leaving S) (l' : Leaving S')
        : Type 0 where
      pub kept : Kept s l.after z c k l'.after
      pub going : l'.going ≡ None
      pub digests : SameDigests l.digests l'.digests []

    -- where it sends the packet, the linked one does what it does, and the exit part
    pub record GoAgrees
        (s : ℕ) (last : Bool) (c : ℕ → C) (k : ℕ) (d : Doing T Z) (l : Leaving S) (g : Going)
        (l' : Leaving S')
        : Type 0 where
      pub kept : Kept s l.after d.sensors c (k + one_if d.rejected) l'.after
      pub fit : IsFitTele d.tele
      pub going : SameGoing telemetry last d.rejected d.tele g l'.going
      pub digests : SameDigests l.digests l'.digests d.reports

    -- the linked exit half, whether the forwarding one drops the packet or sends it
    abbrev pub LeaveAgrees :
        (switch : ℕ) → (first : Bool) → (ℕ → C) → (rejected : ℕ) → Z → T → Leaving S →
        Leaving S' → Option Going → Type 0
    LeaveAgrees s first c k z t l l' None = DropAgrees s c k z l l'
    LeaveAgrees s first c k z t l l' (Some g) =
        GoAgrees s (at_edge net s g.port) c k
        (exit_part p (reads_at s first (at_edge net s g.port) g.view c) t z) l g l'

    module _
        {E N : Type 0} (forwarding : Machine E S Q C) (linked : Machine E S' Q' C)
        (registers : RegisterReading S S' Z N) (IsFitEntries : (switch : ℕ) → E → Type 0)
        (IsVariable : ℕ → Type 0) (IsFitContents : (switch variable : ℕ) → C → Type 0)
      where
        -- what a linker shows: its law on a linked enter and its law on a linked leave, and that
        -- its relations are what they are taken for
        pub record HalvesLaws : Type 0 where
          -- a linked enter, of a frame as the linked network has it. At an edge port the tele
          -- values are at their start
          pub enters :
              (s port k : ℕ) (a : S) (b : S') (z : Z) (c : ℕ → C) (t : T) (frame : List ℕ) →
              s < net.switches → port < port_count → Kept s a z c k b → IsFitTele t →
              (at_edge net s port ≡ true → t ≡ p.tele) → length frame ≤ longest_frame →
              EnterAgrees s (at_edge net s port) c k
              (entry_part p
              (reads_at s (at_edge net s port) false (forwarding.enter s a port frame).view c) t z)
              (forwarding.enter s a port frame)
              (linked.enter s b port (carried telemetry (at_edge net s port) t frame))
          -- a linked leave, of a queued packet that stands for the plain one
          pub leaves :
              (s k : ℕ) (first : Bool) (a : S) (b : S') (z : Z) (c : ℕ → C) (t : T) (q : Q)
              (q' : Q') →
              s < net.switches → Kept s a z c k b → Held s first q t q' →
              LeaveAgrees s first c k z t (forwarding.leave s a q) (linked.leave s b q')
              (forwarding.leave s a q).going
          -- new contents of a control variable
          pub sets :
              (s v k : ℕ) (a : S) (b : S') (z : Z) (c : ℕ → C) (x : C) →
              s < net.switches → Kept s a z c k b → IsVariable v → IsFitContents s v x →
              Kept s (forwarding.set s a v x) z (put c v x) k (linked.set s b v x)
          -- the switches at the start
          pub starts :
              (s : ℕ) (e : E) (c : ℕ → C) →
              s < net.switches → IsFitEntries s e →
              ((v : ℕ) → IsVariable v → IsFitContents s v (c v)) →
              Kept s (forwarding.start s e c) p.sensors c 0 (linked.start s e c)
          -- what switches keep has the registers that a linkage asks for: the forwarding program's
          pub forwards :
              (s k : ℕ) (a : S) (b : S') (z : Z) (c : ℕ → C) →
              s < net.switches → Kept s a z c k b → SameRegisters registers a b
          -- and the monitor's
          pub monitors :
              (s k : ℕ) (a : S) (b : S') (z : Z) (c : ℕ → C) →
              s < net.switches → Kept s a z c k b → MonitorRegisters registers z k b
          -- the tele values at the start can come back from their bytes
          pub start_fits : IsFitTele p.tele
          -- such tele values have as many bytes as the telemetry
          pub sized : (t : T) → IsFitTele t → length (telemetry.bytes t) ≡ telemetry.size
