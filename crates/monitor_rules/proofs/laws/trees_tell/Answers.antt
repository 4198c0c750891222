-- All digests.
use Rattle.monitor_rules.proofs.TellRules.{tells}
use Rattle.monitor_rules.proofs.laws.trees_tell.Goals as goal

pub returns : goal.returns
returns c g i S H M r q = tells g i S H M r q
