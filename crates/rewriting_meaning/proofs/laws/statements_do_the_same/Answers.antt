use Rattle.rewriting_meaning.proofs.Called.{statements_same}
use Rattle.rewriting_meaning.proofs.laws.statements_do_the_same.Goals as goal

pub returns : goal.returns
returns c = statements_same
