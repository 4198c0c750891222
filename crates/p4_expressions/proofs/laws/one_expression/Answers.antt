use Rattle.p4_expressions.proofs.WholeExpressions.{one_expression}
use Rattle.p4_expressions.proofs.laws.one_expression.Goals as goal

pub returns : goal.returns
returns c = one_expression
