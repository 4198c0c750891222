use Rattle.slot_controls.proofs.CallLemmas.{runs_none, runs_some}
use Rattle.slot_controls.proofs.laws.calls_do.Goals as goal

pub returns : goal.returns
returns c k m x es = (λ a ts body. runs_some k m x es a ts body, runs_none k m x es)
