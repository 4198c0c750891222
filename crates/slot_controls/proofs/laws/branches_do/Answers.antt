use Rattle.slot_controls.proofs.FlowLemmas.{choice_does}
use Rattle.slot_controls.proofs.laws.branches_do.Goals as goal

pub returns : goal.returns
returns c = choice_does
