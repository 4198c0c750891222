use Rattle.exit_statements.proofs.Controlled.{enters_agree}
use Rattle.exit_statements.proofs.laws.enters_agree.Goals as goal

pub returns : goal.returns
returns c = enters_agree
