use Rattle.slot_metadata.proofs.StartLemmas.{starts_follow}
use Rattle.slot_metadata.proofs.laws.starts_follow.Goals as goal

pub returns : goal.returns
returns c = starts_follow
