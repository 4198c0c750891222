-- Both clauses by the induction over the packets that are ended.
use Rattle.network_run.proofs.Ends.{all_end, world_ends}
use Rattle.network_run.proofs.laws.closing_ends_every_packet.Goals as goal

pub returns-clause-events : goal.returns-clause-events
returns-clause-events g c m net limits w count i = all_end m net limits w count i

pub returns-clause-worlds : goal.returns-clause-worlds
returns-clause-worlds g c m net telemetry w i = world_ends m net telemetry w i
