use Rattle.slot_parsers.proofs.StepLemmas.{keys_fit}
use Rattle.slot_parsers.proofs.laws.keys_fit.Goals as goal

pub returns : goal.returns
returns c = keys_fit
