use Rattle.std.proofs.Common.{◌≡◌, map, drop}
use Rattle.p4_parts.specs.PartsIn.{cells_decl}
use Rattle.register_texts.specs.Rows.{first_cell}
use Rattle.register_texts.proofs.cells.first_cell.Given as goal

-- no register so far has the name
abbrev pub invariant-loop-number : goal.invariant-loop-number
invariant-loop-number g l =
    first_cell (drop l.number (map cells_decl l.registers)) (g.P.Pass.cells l.switch) l.name
    ≡ first_cell (map cells_decl l.registers) (g.P.Pass.cells l.switch) l.name
