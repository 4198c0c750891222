use Rattle.std.proofs.Common.{take}
use Rattle.std.specs.List.{All}
use Rattle.p4_tables.specs.Laws.{RunsListed}
use Rattle.run_job.proofs.load.are_listed.Given as goal

abbrev pub invariant-loop-state : goal.invariant-loop-state
invariant-loop-state l = All RunsListed (take l.state-index l.tables)
