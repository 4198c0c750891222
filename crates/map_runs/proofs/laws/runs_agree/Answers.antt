use Rattle.map_runs.proofs.Runs.{runs_agree}
use Rattle.map_runs.proofs.laws.runs_agree.Goals as goal

pub returns : goal.returns
returns c = runs_agree
