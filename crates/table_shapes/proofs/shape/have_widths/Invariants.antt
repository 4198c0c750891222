use Rattle.std.proofs.Common.{◌≡◌, drop}
use Rattle.table_shapes.specs.Shapes.{have_widths}
use Rattle.table_shapes.proofs.shape.have_widths.Given as goal

abbrev pub invariant-loop-i : goal.invariant-loop-i
invariant-loop-i l = have_widths (drop l.i l.values) (drop l.i l.words) ≡ have_widths l.values l.words
