use Rattle.std.proofs.Common.{◌≡◌, IfOk, ap, ◌∙◌, subst}
use Rattle.p4_tree.specs.Tree.{Program}
use Rattle.p4_tree.specs.View.{program_of}
use Rattle.parted_programs.specs.Parted.{parted}
use Rattle.program_linker.proofs.form.linked_form.Goals as goal

pub returns : goal.returns
returns c =
    subst (λ (p : Program). IfOk c.parted.result (λ q. program_of q ≡ parted p))
    (ap program_of c.program.ensures.same ∙ c.in_ok-lowered.ensures.is) c.parted.ensures
