use Rattle.std.proofs.Common.{◌≡◌, ◌-◌, ◌++◌, string_bytes}
use Rattle.report_writer.specs.Texts.{cells_of}
use Rattle.register_texts.specs.Rows.{cells_from}
use Rattle.register_texts.proofs.cells.register_text.Given as goal

-- what was written, and the cells that are left
abbrev pub invariant-loop-index : goal.invariant-loop-index
invariant-loop-index g l =
    string_bytes l.text ++ cells_of (cells_from l.name l.shown (g.P.Pass.cells l.switch l.register.name) l.index (l.register.count - l.index))
    ≡ cells_of (cells_from l.name l.shown (g.P.Pass.cells l.switch l.register.name) 0 l.register.count)
