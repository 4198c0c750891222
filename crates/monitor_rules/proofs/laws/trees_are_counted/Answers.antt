-- Bytes and cells.
use Rattle.monitor_rules.proofs.CountRules.{counted}
use Rattle.monitor_rules.proofs.laws.trees_are_counted.Goals as goal

pub returns : goal.returns
returns c g i S H M r q p = counted g i S H M r q p
