use Rattle.exit_statements.proofs.Agreed.{none_is_left}
use Rattle.exit_statements.proofs.laws.none_is_left.Goals as goal

pub returns : goal.returns
returns c = none_is_left
