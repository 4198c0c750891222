use Rattle.std.proofs.Common.{◌≡◌, ◌++◌, map}
use Rattle.path_runner.specs.Conditions.{AreFor}
use Rattle.path_runner.specs.Switches.{switch_of}
use Rattle.path_runner.specs.Views.{station_in}
use Rattle.path_runner.proofs.handed.stations.Given as goal

abbrev pub invariant-loop-switch : goal.invariant-loop-switch
invariant-loop-switch g l = record {
  made : AreFor (map (switch_of g.P.Pass.program g.P.Pass.tables g.P.Pass.cells) l.switch-iterator.a.rest.items) l.switch-iterator.b.rest.items;
  stands : map station_in l.stations.items ++ map (switch_of g.P.Pass.program g.P.Pass.tables g.P.Pass.cells) l.switch-iterator.a.rest.items
      ≡ map (switch_of g.P.Pass.program g.P.Pass.tables g.P.Pass.cells) l.fn.switches.items;
}
