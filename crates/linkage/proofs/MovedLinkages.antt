-- A linkage of machines is one of machines to which they move.
use Rattle.std.proofs.Common.{◌≡◌, ℕ, map, not, sym, subst}
use Rattle.std.specs.List.{filter}
use Rattle.network_run.specs.Machine.{Machine}
use Rattle.network_run.specs.Network.{Wiring, IsWiring, Net}
use Rattle.network_run.specs.PathMeaning.{Property, path_meaning, rejects}
use Rattle.network_run.specs.World.{World, IsValid, net_after}
use Rattle.linkage.specs.Linkage.{Telemetry, RegisterReading, SameRegisters, MonitorRegisters, Counts, is_report, told_report, monitored, Linkage}
use Rattle.linkage.specs.Moves.{with_entries, MovesTo, SameNets}
use Rattle.linkage.proofs.MovedRuns.{same_runs}

module _ {E F S Q S' Q' C T Z N : Type 0} (net : Wiring) (entries : ℕ → F → E)
    (m : Machine E S Q C) (n : Machine F S Q C) (m' : Machine E S' Q' C) (n' : Machine F S' Q' C)
    (Good : ℕ → S → Type 0) (IsQueued : ℕ → Q → Type 0) (Good' : ℕ → S' → Type 0) (IsQueued' : ℕ → Q' → Type 0)
    (Fit : ℕ → E → Type 0) (FitGiven : ℕ → F → Type 0) (IsVariable : ℕ → Type 0) (IsFitContents : ℕ → ℕ → C → Type 0)
    (is_wiring : IsWiring net) (fits : (s : ℕ) (e : F) → FitGiven s e → Fit s (entries s e))
    (plain : MovesTo net entries m n Good IsQueued FitGiven IsVariable IsFitContents)
    (linked : MovesTo net entries m' n' Good' IsQueued' FitGiven IsVariable IsFitContents)
    (p : Property T Z C) (telemetry : Telemetry T) (registers : RegisterReading S S' Z N)
    (before : Linkage m m' net p telemetry registers Fit IsVariable IsFitContents)
  where
    module _ (w : World F C) (valid : IsValid net FitGiven IsVariable IsFitContents w) (k : ℕ) where
      abbrev old_world : World E C
      old_world = with_entries entries w

      old_valid : IsValid net Fit IsVariable IsFitContents (with_entries entries w)
      old_valid = record { hops = valid.hops; entries = λ s h. fits s (w.entries s) (valid.entries s h); contents = valid.contents; packets = valid.packets; events = valid.events }

      plain_same : SameNets net (net_after m net 0 (with_entries entries w) k) (net_after n net 0 w k)
      plain_same = same_runs net entries m n Good IsQueued FitGiven IsVariable IsFitContents is_wiring plain w 0 k valid

      linked_same : SameNets net (net_after m' net telemetry.size (with_entries entries w) k) (net_after n' net telemetry.size w k)
      linked_same = same_runs net entries m' n' Good' IsQueued' FitGiven IsVariable IsFitContents is_wiring linked w telemetry.size k valid

      -- what is said of both networks, and not of what switches keep, is said of the networks before
      both : (P : Net S Q C → Net S' Q' C → Type 0) → P (record (net_after m net 0 (with_entries entries w) k) { switches = plain_same.kept }) (record (net_after m' net telemetry.size (with_entries entries w) k) { switches = linked_same.kept }) → P (net_after n net 0 w k) (net_after n' net telemetry.size w k)
      both P h = subst (λ b. P (net_after n net 0 w k) b) (sym linked_same.rest) (subst (λ a. P a (record (net_after m' net telemetry.size (with_entries entries w) k) { switches = linked_same.kept })) (sym plain_same.rest) h)

    pub moved : Linkage n n' net p telemetry registers FitGiven IsVariable IsFitContents
    moved =
        record {
          forwarding_registers = λ w valid k s h.
              both w valid k (λ a b. SameRegisters registers (a.switches s) (b.switches s))
              (subst (λ x. SameRegisters registers ((plain_same w valid k).kept s) x) (sym ((linked_same w valid k).same s h)) (subst (λ x. SameRegisters registers x ((net_after m' net telemetry.size (with_entries entries w) k).switches s)) (sym ((plain_same w valid k).same s h)) (before.forwarding_registers (with_entries entries w) (old_valid w valid k) k s h)));
          monitor_registers = λ w valid k s h.
              both w valid k (λ a b. MonitorRegisters registers ((path_meaning p a.log).sensors s) ((path_meaning p a.log).rejected_at s) (b.switches s))
              (subst (λ x. MonitorRegisters registers ((path_meaning p (net_after m net 0 (with_entries entries w) k).log).sensors s) ((path_meaning p (net_after m net 0 (with_entries entries w) k).log).rejected_at s) x) (sym ((linked_same w valid k).same s h)) (before.monitor_registers (with_entries entries w) (old_valid w valid k) k s h));
          link_frames = λ w valid k. both w valid k (λ a b. map (λ x. x.sent) b.wires ≡ map (monitored p telemetry (path_meaning p a.log)) a.wires) (before.link_frames (with_entries entries w) (old_valid w valid k) k);
          edge_frames = λ w valid k. both w valid k (λ a b. b.edges ≡ filter (λ x. not (rejects (path_meaning p a.log) x.packet)) a.edges) (before.edge_frames (with_entries entries w) (old_valid w valid k) k);
          reports = λ w valid k. both w valid k (λ a b. filter (λ t. is_report t.digest) b.told ≡ map told_report (path_meaning p a.log).reports) (before.reports (with_entries entries w) (old_valid w valid k) k);
          digests = λ w valid k. both w valid k (λ a b. filter (λ t. not (is_report t.digest)) b.told ≡ a.told) (before.digests (with_entries entries w) (old_valid w valid k) k);
          counts = λ w valid k. both w valid k (λ a b. Counts (path_meaning p a.log) a b) (record { dropped = (before.counts (with_entries entries w) (old_valid w valid k) k).dropped; lost = (before.counts (with_entries entries w) (old_valid w valid k) k).lost });
        }
