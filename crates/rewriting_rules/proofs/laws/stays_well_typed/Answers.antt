use Rattle.rewriting_rules.proofs.Programs.{stays_well_typed as stays}
use Rattle.rewriting_rules.proofs.laws.stays_well_typed.Goals as goal

pub returns : goal.returns
returns c = stays
