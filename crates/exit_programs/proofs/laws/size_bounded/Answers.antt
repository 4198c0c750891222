use Rattle.exit_programs.proofs.Sized.{size_bounded}
use Rattle.exit_programs.proofs.laws.size_bounded.Goals as goal

pub returns : goal.returns
returns c = size_bounded
