use Rattle.slot_controls.proofs.ActLemmas.{idle_does}
use Rattle.slot_controls.proofs.laws.idles_do.Goals as goal

pub returns : goal.returns
returns c = idle_does
