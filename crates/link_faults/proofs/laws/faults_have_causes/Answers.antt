use Rattle.link_faults.proofs.Causes.{faults_have_causes}
use Rattle.link_faults.proofs.laws.faults_have_causes.Goals as goal

pub returns : goal.returns
returns c = faults_have_causes
