use Rattle.linked_starts.proofs.Loaded.{linked_can_be_loaded}
use Rattle.linked_starts.proofs.laws.linked_can_be_loaded.Goals as goal

pub returns : goal.returns
returns c = linked_can_be_loaded c.reaches_is_exact.ensures
