use Rattle.slot_controls.proofs.VariableLemmas.{code_widens}
use Rattle.slot_controls.proofs.laws.code_widens.Goals as goal

pub returns : goal.returns
returns c = code_widens
