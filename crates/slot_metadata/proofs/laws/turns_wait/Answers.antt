use Rattle.slot_metadata.proofs.TurnLemmas.{turns_wait}
use Rattle.slot_metadata.proofs.laws.turns_wait.Goals as goal

pub returns : goal.returns
returns c = turns_wait
