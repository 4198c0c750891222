use Rattle.exit_passages.proofs.Halves.{passes_agree}
use Rattle.exit_passages.proofs.laws.passes_agree.Goals as goal

pub returns : goal.returns
returns c = passes_agree
