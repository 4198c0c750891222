use Rattle.exit_rules.proofs.WellTyped.{stays_well_typed}
use Rattle.exit_rules.proofs.laws.stays_well_typed.Goals as goal

pub returns : goal.returns
returns c = stays_well_typed
