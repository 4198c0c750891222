use Rattle.linked_programs.proofs.Bare.{promises_can_be_kept}
use Rattle.linked_programs.proofs.laws.promises_can_be_kept.Goals as goal

pub returns : goal.returns
returns g c = promises_can_be_kept _ _ _
