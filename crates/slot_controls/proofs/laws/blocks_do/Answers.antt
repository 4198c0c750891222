use Rattle.slot_controls.proofs.FlowLemmas.{block_does}
use Rattle.slot_controls.proofs.laws.blocks_do.Goals as goal

pub returns : goal.returns
returns c = block_does
