use Rattle.slot_parsers.proofs.MakingLemmas.{set_does}
use Rattle.slot_parsers.proofs.laws.assignments_do.Goals as goal

pub returns : goal.returns
returns c = set_does
