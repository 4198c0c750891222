use Rattle.flat_laws.proofs.HeightLemmas.{heights_are_bounded}
use Rattle.flat_laws.proofs.laws.heights_are_bounded.Goals as goal

pub returns : goal.returns
returns c = heights_are_bounded
