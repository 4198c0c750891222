use Rattle.std.proofs.Common.{map}
use Rattle.p4_tree.specs.View.{top_of}
use Rattle.p4_rules.proofs.Cells.{tops_at_first}
use Rattle.p4_rules.proofs.limits.tops_cells.Goals as goal

pub loop-top-init : goal.loop-top-init
loop-top-init c = tops_at_first (map top_of c.args.tops.now)
