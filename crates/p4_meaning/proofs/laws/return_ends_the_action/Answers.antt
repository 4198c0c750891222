use Rattle.p4_meaning.proofs.FewDigests.{never_returns}
use Rattle.p4_meaning.proofs.laws.return_ends_the_action.Goals as goal

pub returns : goal.returns
returns c = λ as' ts held. never_returns as' ts held
