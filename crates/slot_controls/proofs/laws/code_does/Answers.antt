use Rattle.slot_controls.proofs.ActLemmas.{plain_does}
use Rattle.slot_controls.proofs.laws.code_does.Goals as goal

pub returns : goal.returns
returns c = plain_does
