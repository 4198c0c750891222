use Rattle.linked_hosts.proofs.ReadyByRules.{linked_is_host}
use Rattle.linked_hosts.proofs.laws.linked_is_host.Goals as goal

pub returns : goal.returns
returns g c = λ x. linked_is_host _ _ _ _
