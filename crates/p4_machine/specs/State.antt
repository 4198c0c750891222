-- What a switch keeps. Read `Passages` before it.
use Rattle.std.specs.Prelude.{ℕ, List}
use Rattle.bit_values.specs.Bits.{Word}
use Rattle.p4_tree.specs.declared.program.Program.{Program}
use Rattle.p4_tables.specs.State.{Held}
use Rattle.p4_machine.specs.declared.switch.Switch.TheInside.{Inside}

-- its program, which is its plan's, what its tables hold by their numbers, and its registers by their full names
pub record State : Type 0 where
  pub program : Program
  pub tables : List Held
  pub registers : List (List ℕ × List Word)

abbrev pub state_of : Inside → State
state_of s = record { program = s.plan.value.program; tables = s.tables; registers = s.registers }
