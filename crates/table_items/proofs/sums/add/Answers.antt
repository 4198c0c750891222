use Rattle.std.proofs.Common.{arith}
use Rattle.table_items.proofs.RaiseLemmas.{sum_next}
use Rattle.table_items.proofs.sums.add.Goals as goal

pub loop-switch-preserved : goal.loop-switch-preserved
loop-switch-preserved c =
    rw (c.capped.ensures, c.loop-switch.invariant) (sum_next c.args.reads c.args.sums.now c.args.most.now c.loop-switch.switch c.requires (omega arith))
