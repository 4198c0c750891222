use Rattle.whole_properties.proofs.MonitorLaws.{laws}
use Rattle.whole_properties.proofs.laws.whole_properties_keep_the_laws.Goals as goal

pub returns : goal.returns
returns c = laws
