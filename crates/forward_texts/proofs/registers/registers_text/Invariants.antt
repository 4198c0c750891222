use Rattle.std.proofs.Common.{◌≡◌, ℕ, ◌++◌, map, drop, string_bytes}
use Rattle.p4_tree.specs.View.{program_of}
use Rattle.p4_meaning.specs.Pass.{Kept}
use Rattle.report_writer.specs.Texts.{cells_of}
use Rattle.forward_texts.specs.Rows.{switches_cells}
use Rattle.forward_texts.specs.Switches.{KeepAll}
use Rattle.path_runner.specs.Switches.{switch_of}
use Rattle.forward_texts.proofs.registers.registers_text.Given as goal

-- what was written, and the cells of the switches that are left
abbrev pub invariant-loop-switch : goal.invariant-loop-switch
invariant-loop-switch g l =
    (keeps : ℕ → Kept) → KeepAll keeps (map (switch_of g.P.Pass.program g.P.Pass.tables g.P.Pass.cells) l.switches) →
    string_bytes l.text ++ cells_of (switches_cells (program_of l.program) keeps l.switch (drop l.switch l.network.names))
    ≡ cells_of (switches_cells (program_of l.program) keeps 0 l.network.names)
