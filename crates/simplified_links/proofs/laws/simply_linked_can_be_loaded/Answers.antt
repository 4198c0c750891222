use Rattle.simplified_links.proofs.Linked as proved
use Rattle.simplified_links.proofs.laws.simply_linked_can_be_loaded.Goals as goal

pub returns : goal.returns
returns c = proved.simply_linked_can_be_loaded c.reaches_is_exact.ensures
