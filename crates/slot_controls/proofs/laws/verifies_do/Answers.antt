use Rattle.slot_controls.proofs.SumLemmas.{verifies_do}
use Rattle.slot_controls.proofs.laws.verifies_do.Goals as goal

pub returns : goal.returns
returns c = verifies_do
