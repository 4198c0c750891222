-- A run from the first network of a world on keeps to its limits.
use Rattle.std.proofs.Common.{List, length}
use Rattle.std.proofs.lemmas.List.Elements.{All-nil}
use Rattle.network_run.specs.Machine.{Machine}
use Rattle.network_run.specs.Network.{Wiring}
use Rattle.network_run.specs.Events.{Event}
use Rattle.network_run.specs.NetworkRun.{Limits, run_of_halves}
use Rattle.network_run.specs.World.{World, first_net}
use Rattle.run_limits.specs.Limits.{IsWithin}
use Rattle.run_limits.proofs.Short.{IsCarried, IsShort, run_short}
use Rattle.run_limits.proofs.Fewer.{fewer_leave}

pub run_within : {E S Q C : Type 0} (m : Machine E S Q C) (net : Wiring) (limits : Limits) (w : World E C) (es : List (Event C)) → IsWithin limits (length w.packets) (run_of_halves m net limits (first_net m w) es)
run_within m net limits w es =
    let short = run_short limits m net (first_net m w) es (record { wires = All-nil (IsCarried limits); edges = All-nil (IsShort limits) }) in
    record { wires = short.wires; edges = short.edges; few = fewer_leave m net limits w es }
