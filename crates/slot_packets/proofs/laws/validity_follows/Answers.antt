use Rattle.slot_packets.proofs.ValidityLemmas.{validity_follows}
use Rattle.slot_packets.proofs.laws.validity_follows.Goals as goal

pub returns : goal.returns
returns c = validity_follows
