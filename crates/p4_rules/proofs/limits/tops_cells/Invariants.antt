use Rattle.std.proofs.Common.{drop, map}
use Rattle.p4_tree.specs.View.{top_of}
use Rattle.p4_rules.specs.Limits.{tops_cells}
use Rattle.p4_rules.proofs.Cells.{IsCount}
use Rattle.p4_rules.proofs.limits.tops_cells.Given as goal

abbrev pub invariant-loop-top : goal.invariant-loop-top
invariant-loop-top l = IsCount l.cells (tops_cells (map top_of (drop l.top-index l.tops))) (tops_cells (map top_of l.tops))
