use Rattle.slot_controls.proofs.SumLemmas.{updates_do, updates_nowhere}
use Rattle.slot_controls.proofs.laws.updates_do.Goals as goal

pub returns : goal.returns
returns c k m e es p = (λ r t ts. updates_do k m e es p r t ts, updates_nowhere k m e es p)
