use Rattle.exit_statements.proofs.Bounds.{bounds_agree}
use Rattle.exit_statements.proofs.laws.bounds_agree.Goals as goal

pub returns : goal.returns
returns c = bounds_agree
