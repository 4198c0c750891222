use Rattle.slot_metadata.proofs.TurnLemmas.{errors_follow}
use Rattle.slot_metadata.proofs.laws.errors_follow.Goals as goal

pub returns : goal.returns
returns c = errors_follow
