use Rattle.exit_programs.proofs.Sized.{height_bounded}
use Rattle.exit_programs.proofs.laws.height_bounded.Goals as goal

pub returns : goal.returns
returns c = height_bounded
