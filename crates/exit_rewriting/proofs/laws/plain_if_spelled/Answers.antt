use Rattle.exit_rewriting.proofs.Plain.{plain_if_spelled}
use Rattle.exit_rewriting.proofs.laws.plain_if_spelled.Goals as goal

pub returns : goal.returns
returns c = plain_if_spelled
