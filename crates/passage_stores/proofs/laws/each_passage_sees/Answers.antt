use Rattle.passage_stores.proofs.SeenPassages as proved
use Rattle.passage_stores.proofs.laws.each_passage_sees.Goals as goal

pub returns : goal.returns
returns c = proved.each_passage_sees
