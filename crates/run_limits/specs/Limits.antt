-- What a run keeps to, whatever its switches do. Read `NetworkRun` of network_run before it.
use Rattle.std.specs.Prelude.{ℕ, ◌≤◌, length, All}
use Rattle.network_run.specs.Network.{Net}
use Rattle.network_run.specs.NetworkRun.{Limits, longest_frame}

-- no frame is longer than links and edge ports carry, and no more leave than packets come
pub record IsWithin {S Q C : Type 0} (l : Limits) (packets : ℕ) (w : Net S Q C) : Type 0 where
  pub wires : All (λ x. length x.sent.frame ≤ l.link) w.wires
  pub edges : All (λ x. length x.frame ≤ longest_frame) w.edges
  pub few : length w.edges ≤ packets
