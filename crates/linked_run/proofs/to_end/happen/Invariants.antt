use Rattle.std.proofs.Common.{length, map, take, drop}
use Rattle.network_file.specs.Events.{event_of}
use Rattle.path_runner.specs.Nets.{IsSame, RunsTo, tables_of}
use Rattle.path_runner.specs.Views.{state_of}
use Rattle.linked_run.specs.Happening.{CanHappen}
use Rattle.linked_run.proofs.to_end.happen.Given as goal

-- the events so far have happened, and the others can
abbrev pub invariant-loop-event : goal.invariant-loop-event
invariant-loop-event g l = record {
  same : IsSame (state_of l.initial.net) (state_of l.net);
  runs : RunsTo (state_of l.initial.net) (map event_of (take l.event-index l.events)) (state_of l.net);
  left : CanHappen (length (state_of l.initial.net).places) (state_of l.initial.net).maps (tables_of (state_of l.net)) (map event_of (drop l.event-index l.events));
}
