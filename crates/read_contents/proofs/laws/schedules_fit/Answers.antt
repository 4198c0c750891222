use Rattle.read_contents.proofs.Scheduled.{schedules_fit}
use Rattle.read_contents.proofs.laws.schedules_fit.Goals as goal

pub returns : goal.returns
returns c = schedules_fit
