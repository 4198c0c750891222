use Rattle.std.proofs.Common.{◌≡◌}
use Rattle.p4_meaning.specs.Pass.{zero_cells}
use Rattle.p4_registers.proofs.cells.Cells.new.Given as goal

abbrev pub invariant-loop-i : goal.invariant-loop-i
invariant-loop-i l = l.cells.items ≡ zero_cells l.width l.i
