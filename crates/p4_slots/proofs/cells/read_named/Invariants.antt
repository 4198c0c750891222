use Rattle.std.proofs.Common.{◌≡◌, map}
use Rattle.p4_parts.specs.PartsIn.{cells_decl}
use Rattle.p4_statements.specs.Cells.{cells_in}
use Rattle.slot_controls.specs.Callees.{named_cells}
use Rattle.p4_slots.proofs.cells.read_named.Given as goal

abbrev pub invariant-loop-register : goal.invariant-loop-register
invariant-loop-register l =
    cells_in (named_cells (map cells_decl l.register-iterator.a.rest.now) l.register-iterator.b.rest.now) l.name ≡ cells_in (named_cells (map cells_decl l.declared) l.registers) l.name
