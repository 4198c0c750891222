use Rattle.std.proofs.Common.{◌≡◌}
use Rattle.network_run.specs.Events.{closing}
use Rattle.path_runner.specs.Nets.{IsSame, RunsTo, tables_of}
use Rattle.path_runner.specs.Views.{state_of}
use Rattle.path_runner.proofs.net.Net.finish.Given as goal

abbrev pub invariant-loop-packet : goal.invariant-loop-packet
invariant-loop-packet g l = record {
  same : IsSame (state_of l.fn.self) (state_of l.self);
  tables : tables_of (state_of l.self) ≡ tables_of (state_of l.fn.self);
  runs : RunsTo (state_of l.fn.self) (closing (state_of l.fn.self).limits.hops 0 l.packet) (state_of l.self);
}
