use Rattle.exit_statements.proofs.WrittenActions.{actions_agree}
use Rattle.exit_statements.proofs.laws.actions_agree.Goals as goal

pub returns : goal.returns
returns c = actions_agree
