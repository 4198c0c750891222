use Rattle.slot_parsers.proofs.MakingLemmas.{fixed_does}
use Rattle.slot_parsers.proofs.laws.fixed_paths_stay.Goals as goal

pub returns : goal.returns
returns c = fixed_does
