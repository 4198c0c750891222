use Rattle.exit_programs.proofs.Agreed.{bound_stays}
use Rattle.exit_programs.proofs.laws.bound_stays.Goals as goal

pub returns : goal.returns
returns c = bound_stays
