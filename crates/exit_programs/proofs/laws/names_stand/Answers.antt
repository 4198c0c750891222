use Rattle.exit_programs.proofs.Stand.{names_stand}
use Rattle.exit_programs.proofs.laws.names_stand.Goals as goal

pub returns : goal.returns
returns c = names_stand
