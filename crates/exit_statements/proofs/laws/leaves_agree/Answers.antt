use Rattle.exit_statements.proofs.Sent.{leaves_agree}
use Rattle.exit_statements.proofs.laws.leaves_agree.Goals as goal

pub returns : goal.returns
returns c = leaves_agree
