use Rattle.slot_bounds.proofs.Bounds.{bounded}
use Rattle.slot_bounds.proofs.laws.programs_are_bounded.Goals as goal

pub returns : goal.returns
returns c = bounded
