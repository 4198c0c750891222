-- All rules.
use Rattle.monitor_rules.proofs.PassRules.{passes}
use Rattle.monitor_rules.proofs.laws.trees_pass.Goals as goal

pub returns : goal.returns
returns c g i S H M has r q = passes g i S H M has r q
