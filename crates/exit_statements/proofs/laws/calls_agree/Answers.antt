use Rattle.exit_statements.proofs.Called.{calls_agree}
use Rattle.exit_statements.proofs.laws.calls_agree.Goals as goal

pub returns : goal.returns
returns c = calls_agree
