use Rattle.exit_rewriting.proofs.Spelled.{stays_spelled}
use Rattle.exit_rewriting.proofs.laws.stays_spelled.Goals as goal

pub returns : goal.returns
returns c = stays_spelled
