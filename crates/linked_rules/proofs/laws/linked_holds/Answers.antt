use Rattle.linked_rules.proofs.LinkedFine.{linked_holds}
use Rattle.linked_rules.proofs.laws.linked_holds.Goals as goal

pub returns : goal.returns
returns c = linked_holds c.reaches_is_exact.ensures
