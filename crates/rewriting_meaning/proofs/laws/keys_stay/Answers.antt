use Rattle.rewriting_meaning.proofs.Acts.{keys_stay as stay}
use Rattle.rewriting_meaning.proofs.laws.keys_stay.Goals as goal

pub returns : goal.returns
returns c = stay
