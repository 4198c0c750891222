-- By the sum that events keep.
use Rattle.network_run.proofs.Counts.{world_ended}
use Rattle.network_run.proofs.laws.each_packet_ends_once.Goals as goal

pub returns : goal.returns
returns g c m net telemetry w i = world_ended m net telemetry w i
