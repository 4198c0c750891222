use Rattle.link_faults.proofs.Taken.{none_tells}
use Rattle.link_faults.proofs.laws.none_tells.Goals as goal

pub returns : goal.returns
returns c = none_tells
