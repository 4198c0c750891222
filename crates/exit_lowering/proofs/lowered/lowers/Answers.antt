use Rattle.exit_lowering.proofs.Facts.{lowers}
use Rattle.exit_lowering.proofs.lowered.lowers.Goals as goal

pub returns : goal.returns
returns c = lowers
