use Rattle.linked_rules.proofs.LinkedFine.{switches_count_alike}
use Rattle.linked_rules.proofs.laws.switches_count_alike.Goals as goal

pub returns : goal.returns
returns c = switches_count_alike c.reaches_is_exact.ensures
