use Rattle.passage_stores.proofs.PassageFits as proved
use Rattle.passage_stores.proofs.laws.passage_stores_fit.Goals as goal

pub returns : goal.returns
returns c = proved.passage_stores_fit
