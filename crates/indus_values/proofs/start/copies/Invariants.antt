use Rattle.std.proofs.Common.{◌≡◌}
use Rattle.indus_tree.specs.Start.{cells}
use Rattle.indus_values.proofs.start.copies.Given as goal

abbrev pub invariant-loop-i : goal.invariant-loop-i
invariant-loop-i l = l.all.items ≡ cells l.i l.w
