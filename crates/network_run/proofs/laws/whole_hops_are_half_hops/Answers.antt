-- The clause on queued packets, by induction over whole events.
use Rattle.network_run.proofs.Hops.{hops_moving}
use Rattle.network_run.proofs.laws.whole_hops_are_half_hops.Goals as goal

pub returns-clause-none_waits : goal.returns-clause-none_waits
returns-clause-none_waits g c m net limits w es = hops_moving m net limits w es
