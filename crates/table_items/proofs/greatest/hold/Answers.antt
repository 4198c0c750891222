use Rattle.std.proofs.Common.{arith}
use Rattle.table_items.specs.Items.{held_items}
use Rattle.table_items.specs.Views.{contents_view}
use Rattle.table_items.proofs.RaiseLemmas.{seen_next}
use Rattle.table_items.proofs.greatest.hold.Goals as goal

pub loop-switch-preserved : goal.loop-switch-preserved
loop-switch-preserved c =
    rw (c.items_at.ensures, c.deref.ensures.value, c.loop-switch.invariant)
    (seen_next contents_view (held_items c.args.seat) c.args.control.now c.args.most.now c.loop-switch.switch c.index-control-switch.result c.index-control-switch.result c.requires (omega arith) c.index-control-switch.is)
