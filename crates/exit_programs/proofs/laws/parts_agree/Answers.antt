use Rattle.exit_programs.proofs.Agreed.{parts_agree}
use Rattle.exit_programs.proofs.laws.parts_agree.Goals as goal

pub returns : goal.returns
returns c = parts_agree
