use Rattle.rewriting_passages.proofs.Passages as proved
use Rattle.rewriting_passages.proofs.laws.passages_stay.Goals as goal

pub returns : goal.returns
returns c = proved.passages_stay
