use Rattle.slot_controls.proofs.ActLemmas.{makes_does}
use Rattle.slot_controls.proofs.laws.validity_does.Goals as goal

pub returns : goal.returns
returns c = makes_does
