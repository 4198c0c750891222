use Rattle.passage_stores.proofs.SeenBlocks as proved
use Rattle.passage_stores.proofs.laws.seen_has_width.Goals as goal

pub returns : goal.returns
returns c = proved.seen_has_width
