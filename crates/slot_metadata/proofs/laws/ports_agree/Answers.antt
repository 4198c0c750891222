use Rattle.slot_metadata.proofs.TurnLemmas.{ports_agree}
use Rattle.slot_metadata.proofs.laws.ports_agree.Goals as goal

pub returns : goal.returns
returns c = ports_agree
