use Rattle.flat_laws.proofs.SizeLemmas.{sizes_are_bounded}
use Rattle.flat_laws.proofs.laws.sizes_are_bounded.Goals as goal

pub returns : goal.returns
returns c = sizes_are_bounded
