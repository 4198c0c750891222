use Rattle.link_faults.proofs.Taken.{none_is_taken}
use Rattle.link_faults.proofs.laws.none_is_taken.Goals as goal

pub returns : goal.returns
returns c = none_is_taken
