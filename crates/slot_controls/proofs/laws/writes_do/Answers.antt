use Rattle.slot_controls.proofs.RegisterLemmas.{writes_do}
use Rattle.slot_controls.proofs.laws.writes_do.Goals as goal

pub returns : goal.returns
returns c = writes_do
