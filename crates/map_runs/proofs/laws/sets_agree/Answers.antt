use Rattle.map_runs.proofs.Agree.{sets_agree}
use Rattle.map_runs.proofs.laws.sets_agree.Goals as goal

pub returns : goal.returns
returns c = sets_agree
