use Rattle.std.proofs.Common.{◌≡◌, ◌++◌, map, drop, string_bytes}
use Rattle.p4_parts.specs.PartsIn.{cells_decl}
use Rattle.report_writer.specs.Texts.{cells_of}
use Rattle.register_texts.specs.Rows.{registers_cells}
use Rattle.register_texts.specs.Which.{is_one_of}
use Rattle.register_texts.proofs.cells.switch_text.Given as goal

-- what was written, and the cells of the registers that are left
abbrev pub invariant-loop-number : goal.invariant-loop-number
invariant-loop-number g l =
    string_bytes l.text ++ cells_of (registers_cells (is_one_of l.which) l.name (g.P.Pass.cells l.switch) (drop l.number (map string_bytes l.names)) (drop l.number (map cells_decl l.registers)))
    ≡ cells_of (registers_cells (is_one_of l.which) l.name (g.P.Pass.cells l.switch) (map string_bytes l.names) (map cells_decl l.registers))
