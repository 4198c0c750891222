use Rattle.rewriting_rules.proofs.Spelled.{stays_spelled as stays}
use Rattle.rewriting_rules.proofs.laws.stays_spelled.Goals as goal

pub returns : goal.returns
returns c = stays
