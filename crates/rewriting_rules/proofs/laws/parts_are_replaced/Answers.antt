use Rattle.rewriting_rules.proofs.Statements.{block_replaced}
use Rattle.rewriting_rules.proofs.Controls.{locals_fine, locals_after, control_fine}
use Rattle.rewriting_rules.proofs.laws.parts_are_replaced.Goals as goal

pub returns : goal.returns
returns c =
    record {
      blocks = λ h s k a b r f. block_replaced r h s k f;
      locals = λ h s k ls ms r f. locals_fine h ls ms s k r f;
      sights = λ h s k ls ms r f. locals_after h ls ms s k r f;
      controls = control_fine;
    }
