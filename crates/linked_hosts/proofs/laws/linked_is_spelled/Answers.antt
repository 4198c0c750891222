use Rattle.linked_hosts.proofs.NamesThere.{linked_is_spelled}
use Rattle.linked_hosts.proofs.laws.linked_is_spelled.Goals as goal

pub returns : goal.returns
returns c = linked_is_spelled
