use Rattle.exit_programs.proofs.Left.{stays_as_it_is}
use Rattle.exit_programs.proofs.laws.stays_as_it_is.Goals as goal

pub returns : goal.returns
returns c = stays_as_it_is
