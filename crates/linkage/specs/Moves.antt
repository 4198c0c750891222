-- Two machines that do the same at the switches of a network, where what switches keep and packets queue is good.
-- Read `World` of the network's run before it.
use Rattle.std.specs.Prelude.{◌≡◌, ℕ, ◌<◌, List, Some}
use Rattle.network_run.specs.Machine.{Machine}
use Rattle.network_run.specs.Network.{Wiring, Net}
use Rattle.network_run.specs.World.{World, IsValid, net_after}

-- the world with other forwarding entries at each switch
abbrev pub with_entries : {E F C : Type 0} → ((switch : ℕ) → F → E) → World F C → World E C
with_entries entries w =
    record {
      hops = w.hops;
      entries = λ s. entries s (w.entries s);
      contents = w.contents;
      packets = w.packets;
      events = w.events;
    }

-- the networks are the same, but for what is kept at numbers that are no switch's
pub record SameNets {S Q C : Type 0} (net : Wiring) (a b : Net S Q C) : Type 0 where
  pub kept : (switch : ℕ) → S
  pub rest : b ≡ record a { switches = kept }
  pub same : (s : ℕ) → s < net.switches → kept s ≡ a.switches s

-- The machine n, with entries of its own that stand for entries of the machine m. `Good s a`: switch
-- s may keep a. `IsQueued s q`: it may queue q.
module _
    {E F S Q C : Type 0} (net : Wiring) (entries : (switch : ℕ) → F → E) (m : Machine E S Q C)
    (n : Machine F S Q C) (Good : (switch : ℕ) → S → Type 0)
    (IsQueued : (switch : ℕ) → Q → Type 0) (IsFitEntries : (switch : ℕ) → F → Type 0)
    (IsVariable : ℕ → Type 0) (IsFitContents : (switch variable : ℕ) → C → Type 0)
  where
    -- n does what m does, at switches of the network, on what is good and fits; and what m keeps and
    -- queues there is good
    pub record MovesTo : Type 0 where
      -- a switch at the start
      pub starts :
          (s : ℕ) (e : F) (c : ℕ → C) →
          s < net.switches → IsFitEntries s e →
          ((v : ℕ) → IsVariable v → IsFitContents s v (c v)) →
          n.start s e c ≡ m.start s (entries s e) c
      pub starts_good :
          (s : ℕ) (e : F) (c : ℕ → C) →
          s < net.switches → IsFitEntries s e →
          ((v : ℕ) → IsVariable v → IsFitContents s v (c v)) → Good s (m.start s (entries s e) c)
      -- the entry half
      pub enters :
          (s port : ℕ) (a : S) (frame : List ℕ) →
          s < net.switches → Good s a → n.enter s a port frame ≡ m.enter s a port frame
      pub enters_good :
          (s port : ℕ) (a : S) (frame : List ℕ) →
          s < net.switches → Good s a → Good s (m.enter s a port frame).after
      pub queues :
          (s port : ℕ) (a : S) (frame : List ℕ) (q : Q) →
          s < net.switches → Good s a → (m.enter s a port frame).queued ≡ Some q → IsQueued s q
      -- the exit half
      pub leaves :
          (s : ℕ) (a : S) (q : Q) →
          s < net.switches → Good s a → IsQueued s q → n.leave s a q ≡ m.leave s a q
      pub leaves_good :
          (s : ℕ) (a : S) (q : Q) →
          s < net.switches → Good s a → IsQueued s q → Good s (m.leave s a q).after
      -- new contents of a control variable
      pub sets :
          (s v : ℕ) (a : S) (x : C) →
          s < net.switches → Good s a → IsVariable v → IsFitContents s v x →
          n.set s a v x ≡ m.set s a v x
      pub sets_good :
          (s v : ℕ) (a : S) (x : C) →
          s < net.switches → Good s a → IsVariable v → IsFitContents s v x → Good s (m.set s a v x)

    -- then each run of n is that of m
    abbrev pub SameRuns : Type 0
    SameRuns =
        (w : World F C) (telemetry k : ℕ) → IsValid net IsFitEntries IsVariable IsFitContents w →
        SameNets net (net_after m net telemetry (with_entries entries w) k) (net_after n net telemetry w k)
