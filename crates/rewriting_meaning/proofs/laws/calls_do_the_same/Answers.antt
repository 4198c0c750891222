use Rattle.rewriting_meaning.proofs.Called.{calls_same}
use Rattle.rewriting_meaning.proofs.laws.calls_do_the_same.Goals as goal

pub returns : goal.returns
returns c = calls_same
