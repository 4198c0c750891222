use Rattle.indus_types.proofs.SeenWidths.{sights_seen}
use Rattle.indus_types.proofs.laws.sights_are_seen.Goals as goal

pub returns : goal.returns
returns c = sights_seen
