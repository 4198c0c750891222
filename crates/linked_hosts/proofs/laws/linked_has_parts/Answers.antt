use Rattle.linked_hosts.proofs.ReadyByRules.{linked_has_parts}
use Rattle.linked_hosts.proofs.laws.linked_has_parts.Goals as goal

pub returns : goal.returns
returns g c = linked_has_parts _ _ _
