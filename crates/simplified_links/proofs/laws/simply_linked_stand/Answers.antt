use Rattle.simplified_links.proofs.Linked as proved
use Rattle.simplified_links.proofs.laws.simply_linked_stand.Goals as goal

pub returns : goal.returns
returns c = proved.simply_linked_stand
