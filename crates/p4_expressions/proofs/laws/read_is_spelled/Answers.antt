use Rattle.p4_expressions.proofs.WholeExpressions.{spelled_is_read, read_is_spelled}
use Rattle.p4_expressions.proofs.laws.read_is_spelled.Goals as goal

pub returns-clause-complete : goal.returns-clause-complete
returns-clause-complete c = spelled_is_read

pub returns-clause-sound : goal.returns-clause-sound
returns-clause-sound c = read_is_spelled
