use Rattle.tree_linkage.proofs.Theorem.{linked_form_is_given}
use Rattle.tree_linkage.proofs.laws.linked_form_is_given.Goals as goal

pub returns : goal.returns
returns c = linked_form_is_given
