-- Runs whose switches are loaded and set by the map are those of the monitor's own controls. Read `Named` before it, `Programs`
-- of `switch_machines`, `World` of `network_run` and `Moves` of `linkage`.
use Rattle.std.specs.Prelude.{◌≡◌, ℕ, ◌<◌}
use Rattle.indus_tree.specs.State.{Contents}
use Rattle.p4_meaning.specs.Tables.{Tables}
use Rattle.network_run.specs.Network.{Wiring, IsWiring}
use Rattle.network_run.specs.World.{World, IsValid, net_after}
use Rattle.linkage.specs.Moves.{SameNets}
use Rattle.switch_machines.specs.Programs.{Controls, Programs, machine_with}
use Rattle.whole_properties.specs.Whole.{Given, lower_monitor, IsVariable}
use Rattle.whole_properties.specs.Asked.{IsGiven}
use Rattle.control_maps.specs.Maps.{map_controls}
use Rattle.map_runs.specs.Named.{named_lookups, IsOfShape}

-- whatever the tables hold besides
abbrev pub HoldsAny : (switch : ℕ) → Tables → Type 0
HoldsAny s held = Unit {0}

-- a world whose contents, at the start and in its events, have the shapes of their variables
abbrev pub FitsWorld : Given → Wiring → World Tables Contents → Type 0
FitsWorld g net w = IsValid net HoldsAny (IsVariable g) (λ s. IsOfShape g) w

-- the switches of the network are loaded and set by the map; at other numbers there may be any controls
abbrev pub AreMapped : Given → Wiring → ((switch : ℕ) → Controls Contents) → Type 0
AreMapped g net controls = (s : ℕ) → s < net.switches → controls s ≡ map_controls (named_lookups g)

-- the networks are the same after each step, but for what is kept at numbers that are no switch's
abbrev pub RunsAgree : Type 0
RunsAgree =
    (g : Given) → IsGiven g → (p : Programs) (net : Wiring) → IsWiring net
    → (controls : (switch : ℕ) → Controls Contents) → AreMapped g net controls
    → (w : World Tables Contents) (telemetry n : ℕ) → FitsWorld g net w
    → SameNets net (net_after (machine_with (λ s. (lower_monitor g).controls) p) net telemetry w n) (net_after (machine_with controls p) net telemetry w n)
