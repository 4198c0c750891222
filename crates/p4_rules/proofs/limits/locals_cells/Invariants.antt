use Rattle.std.proofs.Common.{drop, map}
use Rattle.p4_tree.specs.View.{local_of}
use Rattle.p4_rules.specs.Limits.{locals_cells}
use Rattle.p4_rules.proofs.Cells.{IsCount}
use Rattle.p4_rules.proofs.limits.locals_cells.Given as goal

abbrev pub invariant-loop-local : goal.invariant-loop-local
invariant-loop-local l = IsCount l.cells (locals_cells (map local_of (drop l.local-index l.locals))) (locals_cells (map local_of l.locals))
