use Rattle.slot_parsers.proofs.MakingLemmas.{extracts_do}
use Rattle.slot_parsers.proofs.laws.extracts_do.Goals as goal

pub returns : goal.returns
returns c = extracts_do
