use Rattle.std.proofs.Common.{map, take}
use Rattle.network_file.specs.Events.{event_of}
use Rattle.path_runner.specs.Nets.{IsSame, RunsTo}
use Rattle.path_runner.specs.Views.{state_of}
use Rattle.forward_run.proofs.run.happen.Given as goal

-- the events so far have happened
abbrev pub invariant-loop-event : goal.invariant-loop-event
invariant-loop-event g l = record {
  same : IsSame (state_of l.initial.net) (state_of l.net);
  runs : RunsTo (state_of l.initial.net) (map event_of (take l.event-index l.events)) (state_of l.net);
}
