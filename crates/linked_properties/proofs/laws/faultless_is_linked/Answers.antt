use Rattle.linked_properties.proofs.Linked.{faultless_is_linked}
use Rattle.linked_properties.proofs.laws.faultless_is_linked.Goals as goal

pub returns : goal.returns
returns c = faultless_is_linked c.reaches_is_exact.ensures
