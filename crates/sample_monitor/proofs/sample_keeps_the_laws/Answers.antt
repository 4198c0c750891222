use Rattle.sample_monitor.proofs.SampleLaws.{sample_laws}
use Rattle.sample_monitor.proofs.sample_keeps_the_laws.Goals as goal

pub returns : goal.returns
returns c = sample_laws
