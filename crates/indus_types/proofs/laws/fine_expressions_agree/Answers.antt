use Rattle.indus_types.proofs.Agreement.{fine_agrees}
use Rattle.indus_types.proofs.laws.fine_expressions_agree.Goals as goal

pub returns : goal.returns
returns c = fine_agrees
