use Rattle.faultless_programs.proofs.Within.{faultless_is_well_typed}
use Rattle.faultless_programs.proofs.laws.faultless_is_well_typed.Goals as goal

pub returns : goal.returns
returns c = faultless_is_well_typed c.reaches_is_exact.ensures
