use Rattle.exit_statements.proofs.Agreed.{lists_agree}
use Rattle.exit_statements.proofs.laws.lists_agree.Goals as goal

pub returns : goal.returns
returns c = lists_agree
