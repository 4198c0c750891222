use Rattle.std.proofs.Common.{map}
use Rattle.p4_tree.specs.View.{local_of}
use Rattle.p4_rules.proofs.Cells.{locals_at_first}
use Rattle.p4_rules.proofs.limits.locals_cells.Goals as goal

pub loop-local-init : goal.loop-local-init
loop-local-init c = locals_at_first (map local_of c.args.locals.now)
