use Rattle.exit_statements.proofs.Written.{names_agree}
use Rattle.exit_statements.proofs.laws.names_agree.Goals as goal

pub returns : goal.returns
returns c = names_agree
