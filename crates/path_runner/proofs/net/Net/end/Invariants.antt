use Rattle.std.proofs.Common.{◌≡◌}
use Rattle.network_run.specs.Events.{to_its_end}
use Rattle.path_runner.specs.Nets.{IsSame, RunsTo, tables_of}
use Rattle.path_runner.specs.Views.{state_of}
use Rattle.path_runner.proofs.net.Net.end.Given as goal

abbrev pub invariant-loop : goal.invariant-loop
invariant-loop g l = record {
  same : IsSame (state_of l.fn.self) (state_of l.self);
  tables : tables_of (state_of l.self) ≡ tables_of (state_of l.fn.self);
  runs : RunsTo (state_of l.fn.self) (to_its_end l.packet l.counter) (state_of l.self);
}
