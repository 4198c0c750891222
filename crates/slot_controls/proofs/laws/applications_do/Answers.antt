use Rattle.slot_controls.proofs.TableLemmas.{applies_none, applies_some}
use Rattle.slot_controls.proofs.laws.applications_do.Goals as goal

pub returns : goal.returns
returns c k m x = (λ bs a asked. applies_some k m x bs a asked, applies_none k m x)
