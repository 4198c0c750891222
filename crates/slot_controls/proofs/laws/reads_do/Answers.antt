use Rattle.slot_controls.proofs.RegisterLemmas.{reads_into, reads_nowhere}
use Rattle.slot_controls.proofs.laws.reads_do.Goals as goal

pub returns : goal.returns
returns c k m x p i t = (λ r. reads_into k m x p i t r, reads_nowhere k m x p i)
