use Rattle.std.proofs.Common.{take}
use Rattle.std.proofs.lemmas.List.Elements.{All-take}
use Rattle.p4_tree.specs.View.{program_of}
use Rattle.p4_printer.specs.CanSpell.{CanSpell}
use Rattle.linked_run.proofs.Copied.{copied_can}
use Rattle.linked_run.proofs.to_end.copies.Goals as goal

pub returns-clause-spelled : goal.returns-clause-spelled
returns-clause-spelled c =
    copied_can c.loop-program.copies.items (take c.loop-program.program-index c.args.programs.now) c.loop-program.invariant.same
    (All-take (λ t. CanSpell (program_of t)) c.loop-program.program-index c.args.programs.now c.requires)
