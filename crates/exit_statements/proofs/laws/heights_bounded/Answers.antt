use Rattle.exit_statements.proofs.Sizes.{heights_bounded}
use Rattle.exit_statements.proofs.laws.heights_bounded.Goals as goal

pub returns : goal.returns
returns c = heights_bounded
