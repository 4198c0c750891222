use Rattle.linked_hosts.proofs.OwnRoots.{linkable_has_own_roots}
use Rattle.linked_hosts.proofs.laws.linkable_has_own_roots.Goals as goal

pub returns : goal.returns
returns c = linkable_has_own_roots
