use Rattle.linked_hosts.proofs.ReadyByRules.{well_typed_is_linkable}
use Rattle.linked_hosts.proofs.laws.well_typed_is_linkable.Goals as goal

pub returns : goal.returns
returns c = well_typed_is_linkable
