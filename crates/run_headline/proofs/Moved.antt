-- A linkage in all worlds of one kind is one in the worlds of another that are among them.
use Rattle.std.proofs.Common.{ℕ}
use Rattle.network_run.specs.Machine.{Machine}
use Rattle.network_run.specs.Network.{Wiring}
use Rattle.network_run.specs.PathMeaning.{Property}
use Rattle.network_run.specs.World.{World, IsValid}
use Rattle.linkage.specs.Linkage.{Telemetry, RegisterReading, Linkage}

module _ {E S Q S' Q' C T Z N : Type 0} (m : Machine E S Q C) (m' : Machine E S' Q' C) (net : Wiring) (p : Property T Z C) (telemetry : Telemetry T) (registers : RegisterReading S S' Z N)
    (Fit : ℕ → E → Type 0) (IsVariable IsNumber : ℕ → Type 0) (IsFitContents Fits : ℕ → ℕ → C → Type 0)
    (among : (w : World E C) → IsValid net Fit IsNumber Fits w → IsValid net Fit IsVariable IsFitContents w)
    (all : Linkage m m' net p telemetry registers Fit IsVariable IsFitContents)
  where
    pub fewer_worlds : Linkage m m' net p telemetry registers Fit IsNumber Fits
    fewer_worlds =
        record {
          forwarding_registers = λ w valid. all.forwarding_registers w (among w valid);
          monitor_registers = λ w valid. all.monitor_registers w (among w valid);
          link_frames = λ w valid. all.link_frames w (among w valid);
          edge_frames = λ w valid. all.edge_frames w (among w valid);
          reports = λ w valid. all.reports w (among w valid);
          digests = λ w valid. all.digests w (among w valid);
          counts = λ w valid. all.counts w (among w valid);
        }
