use Rattle.std.proofs.Common.{◌++◌, ◌∷◌, [], ap, ◌∙◌}
use Rattle.bit_values.specs.Bits.{Word}
use Rattle.p4_registers.proofs.CellsLemmas.{zero_cells_more}
use Rattle.p4_registers.proofs.cells.Cells.new.Goals as goal

pub loop-i-preserved : goal.loop-i-preserved
loop-i-preserved c =
    c.in_ok-push.ensures.items
    ∙ ap (λ (v : Word). c.loop-i.cells.items ++ v ∷ []) c.new.ensures
    ∙ zero_cells_more c.args.width c.loop-i.i c.loop-i.cells.items c.loop-i.invariant
