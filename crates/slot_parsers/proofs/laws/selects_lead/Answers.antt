use Rattle.slot_parsers.proofs.StepLemmas.{selects_lead}
use Rattle.slot_parsers.proofs.laws.selects_lead.Goals as goal

pub returns : goal.returns
returns c = selects_lead
