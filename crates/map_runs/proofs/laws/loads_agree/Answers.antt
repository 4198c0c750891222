use Rattle.map_runs.proofs.Agree.{loads_agree}
use Rattle.map_runs.proofs.laws.loads_agree.Goals as goal

pub returns : goal.returns
returns c = loads_agree
