-- Where packets are and how far they go, as the network's run has it.
use Rattle.p4_meaning.specs.Pass.{Queued}
use Rattle.p4_machine.specs.declared.pass.Pass.{Ghosts}
use Rattle.network_run.specs.Network as network
use Rattle.network_run.specs.Network.{Flying, Over}
use Rattle.network_run.specs.NetworkRun as run
use Rattle.network_run.specs.NetworkRun.{queued_or_over}
use Rattle.path_runner.specs.declared.place.Limits.{Limits}
use Rattle.path_runner.specs.declared.place.Parked.{Parked}
use Rattle.path_runner.specs.declared.place.Place.{Place}
use Rattle.path_runner.specs.declared.place.Place.TheVariants as code

abbrev pub parked_place : {P Q : Type 0} {g : Ghosts P Q} → Parked P Q g → network.Place Queued
parked_place {P} {Q} {g} p = queued_or_over p.switch p.port p.passed (g.place p.queued.place.value).waiting

abbrev pub place_in : {P Q : Type 0} {g : Ghosts P Q} → Place P Q g → network.Place Queued
place_in (code.Flying f) = Flying f.switch f.port f.frame.items f.passed
place_in (code.Waiting p) = parked_place p
place_in code.Over = Over

abbrev pub limits_of : Limits → run.Limits
limits_of l = record { hops = l.hops; link = l.link }
