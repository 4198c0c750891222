use Rattle.slot_controls.proofs.DropLemmas.{drops_does}
use Rattle.slot_controls.proofs.laws.drops_do.Goals as goal

pub returns : goal.returns
returns c = drops_does
