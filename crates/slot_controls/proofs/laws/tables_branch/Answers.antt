use Rattle.slot_controls.proofs.FlowLemmas.{table_none, table_some}
use Rattle.slot_controls.proofs.laws.tables_branch.Goals as goal

pub returns : goal.returns
returns c k m at x asked e a b st other is does does_else = (λ bs y app. table_some k m at x asked e a b st other bs y is does does_else app, λ app. table_none k m at x asked e a b st other is does does_else app)
