-- A switch of the program, and its halves. Read `Passages` of `p4_machine` and `Nets` before it.
use Rattle.std.specs.Prelude.{ℕ, List, [], Option}
use Rattle.p4_tree.specs.Tree.{Program}
use Rattle.p4_meaning.specs.Pass.{Registers, Entered, Queued}
use Rattle.p4_tables.specs.State.{Held}
use Rattle.p4_machine.specs.Passages.{Passage, entry_in, exit_in}
use Rattle.path_runner.specs.Nets.{Switch}

abbrev pub switch_of : {P : Type 0} → (P → Program) → (P → List Held) → (P → Registers) → P → Switch
switch_of program tables cells x = record { program = program x; tables = tables x; cells = cells x }

abbrev pub entry_at : Switch → (port : ℕ) → (frame : List ℕ) → Entered
entry_at x port frame = entry_in x.program x.tables x.cells port frame

abbrev pub exit_at : Switch → Option Queued → Passage
exit_at x q = exit_in x.program x.tables x.cells [] q

-- a switch with other cells
abbrev pub with_cells : Switch → Registers → Switch
with_cells x cells = record x { cells = cells }
