use Rattle.slot_controls.proofs.SumLemmas.{tells_do}
use Rattle.slot_controls.proofs.laws.digests_do.Goals as goal

pub returns : goal.returns
returns c = tells_do
