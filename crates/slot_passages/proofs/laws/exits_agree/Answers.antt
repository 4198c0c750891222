use Rattle.slot_passages.proofs.HalvesLemmas.{exits_agree}
use Rattle.slot_passages.proofs.laws.exits_agree.Goals as goal

pub returns : goal.returns
returns c = exits_agree
