use Rattle.slot_passages.proofs.HalvesLemmas.{entries_agree}
use Rattle.slot_passages.proofs.laws.entries_agree.Goals as goal

pub returns : goal.returns
returns c = entries_agree
