use Rattle.flat_laws.proofs.Whole.{starts_are_numbered}
use Rattle.flat_laws.proofs.laws.starts_are_numbered.Goals as goal

pub returns : goal.returns
returns c = starts_are_numbered
