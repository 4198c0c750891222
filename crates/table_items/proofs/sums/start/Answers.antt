use Rattle.std.proofs.Common.{arith, refl, get_or}
use Rattle.table_items.specs.Steps.{cap}
use Rattle.table_items.proofs.RaiseLemmas.{next}
use Rattle.table_items.proofs.sums.start.Goals as goal

pub loop-switch-preserved : goal.loop-switch-preserved
loop-switch-preserved c =
    rw (c.min.ensures, c.loop-switch.invariant) (next cap c.args.entries.now c.args.sums.now c.loop-switch.switch (get_or c.args.entries.now c.loop-switch.switch 0) 0 c.requires (omega arith) refl)
