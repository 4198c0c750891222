use Rattle.exit_statements.proofs.Declared.{declare_same}
use Rattle.exit_statements.proofs.laws.declare_same.Goals as goal

pub returns : goal.returns
returns c = declare_same
