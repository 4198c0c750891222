use Rattle.linked_properties.proofs.Linked.{faultless_is_given}
use Rattle.linked_properties.proofs.laws.faultless_is_given.Goals as goal

pub returns : goal.returns
returns c = faultless_is_given
