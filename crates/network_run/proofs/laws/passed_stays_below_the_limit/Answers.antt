-- Both clauses by the induction over events.
use Rattle.network_run.proofs.Ends.{run_fewer, world_fewer}
use Rattle.network_run.proofs.laws.passed_stays_below_the_limit.Goals as goal

pub returns-clause-events : goal.returns-clause-events
returns-clause-events g c m net limits w es = run_fewer m net limits w es

pub returns-clause-worlds : goal.returns-clause-worlds
returns-clause-worlds g c m net telemetry w k = world_fewer m net telemetry w k
