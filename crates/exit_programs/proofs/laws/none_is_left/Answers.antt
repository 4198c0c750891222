use Rattle.exit_programs.proofs.Left.{none_left}
use Rattle.exit_programs.proofs.laws.none_is_left.Goals as goal

pub returns : goal.returns
returns c = none_left
