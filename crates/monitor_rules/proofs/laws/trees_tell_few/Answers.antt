-- All digests.
use Rattle.monitor_rules.proofs.FewTold.{tell_few}
use Rattle.monitor_rules.proofs.laws.trees_tell_few.Goals as goal

pub returns : goal.returns
returns c = tell_few
