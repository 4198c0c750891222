-- What a switch over slots keeps. Read `SlotPlaces` before it, `Callees` of `slot_controls` and `Passages` of `p4_machine`.
use Rattle.std.specs.Prelude.{List}
use Rattle.bit_values.specs.Bits.{Word}
use Rattle.p4_tree.specs.View.{program_of}
use Rattle.p4_tree.specs.declared.program.Program.{Program}
use Rattle.p4_meaning.specs.Parts.{parts_of}
use Rattle.p4_meaning.specs.Pass.{Registers}
use Rattle.p4_statements.specs.Cells.{cells_in}
use Rattle.p4_tables.specs.State.{Held}
use Rattle.slot_controls.specs.Callees.{named_cells}
use Rattle.p4_slots.specs.declared.machine.SlotMachine.TheInside.{Inside}

-- its program, which is its plan's, what its tables hold by their numbers, and the cells of its registers by their numbers
pub record MachineState : Type 0 where
  pub program : Program
  pub tables : List Held
  pub registers : List (List Word)

abbrev pub machine_of : Inside → MachineState
machine_of s = record { program = s.plan.value.program; tables = s.tables; registers = s.externs.registers.items }

-- the cells of registers by the full names that a program has for them
abbrev pub cells_by : Program → List (List Word) → Registers
cells_by p cells = cells_in (named_cells (parts_of (program_of p)).registers cells)

-- the registers by their full names
abbrev pub cells_of : MachineState → Registers
cells_of s = cells_by s.program s.registers
