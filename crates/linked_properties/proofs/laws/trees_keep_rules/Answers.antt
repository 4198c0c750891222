use Rattle.linked_properties.proofs.Linked.{trees_keep_rules}
use Rattle.linked_properties.proofs.laws.trees_keep_rules.Goals as goal

pub returns : goal.returns
returns c = trees_keep_rules
