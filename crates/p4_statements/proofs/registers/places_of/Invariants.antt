use Rattle.std.proofs.Common.{take}
use Rattle.p4_parts.specs.Places.{Tells}
use Rattle.p4_statements.specs.Cells.{names_in}
use Rattle.p4_statements.proofs.registers.places_of.Given as goal

abbrev pub invariant-loop-i : goal.invariant-loop-i
invariant-loop-i l = Tells l.places.entries (names_in (take l.i l.rows))
