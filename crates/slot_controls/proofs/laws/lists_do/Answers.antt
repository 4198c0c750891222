use Rattle.slot_controls.proofs.FlowLemmas.{all_more}
use Rattle.slot_controls.proofs.laws.lists_do.Goals as goal

pub returns : goal.returns
returns c = all_more
