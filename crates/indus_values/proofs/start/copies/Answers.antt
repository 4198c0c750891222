use Rattle.std.proofs.Common.{◌∷◌, [], ◌++◌, List, ap, ◌∙◌}
use Rattle.bit_values.specs.Bits.{Word}
use Rattle.indus_values.proofs.StartLemmas.{cells_more}
use Rattle.indus_values.proofs.start.copies.Goals as goal

pub loop-i-preserved : goal.loop-i-preserved
loop-i-preserved c = c.in_ok-push.ensures.items ∙ ap (λ (z : List Word). z ++ c.args.w ∷ []) c.loop-i.invariant ∙ cells_more c.loop-i.i c.args.w
