use Rattle.slot_metadata.proofs.TurnLemmas.{drops_agree}
use Rattle.slot_metadata.proofs.laws.drops_agree.Goals as goal

pub returns : goal.returns
returns c = drops_agree
