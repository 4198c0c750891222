use Rattle.exit_statements.proofs.Agreed.{stay_same}
use Rattle.exit_statements.proofs.laws.stay_same.Goals as goal

pub returns : goal.returns
returns c = stay_same
