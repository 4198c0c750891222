use Rattle.std.proofs.Common.{◌≡◌, ◌++◌, map}
use Rattle.path_runner.specs.Switches.{switch_of}
use Rattle.path_runner.specs.Views.{station_in}
use Rattle.path_runner.proofs.handed.switches.Given as goal

abbrev pub invariant-loop-station : goal.invariant-loop-station
invariant-loop-station g l =
    map (switch_of g.P.Pass.program g.P.Pass.tables g.P.Pass.cells) l.switches.items ++ map station_in l.station-iterator.rest.items ≡ map station_in l.fn.stations.items
