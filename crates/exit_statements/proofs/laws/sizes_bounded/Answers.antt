use Rattle.exit_statements.proofs.Sizes.{sizes_bounded}
use Rattle.exit_statements.proofs.laws.sizes_bounded.Goals as goal

pub returns : goal.returns
returns c = sizes_bounded
