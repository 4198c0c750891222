-- Both kinds of switches: over slots, and on maps by name. Read `Machines` before it, and `State` of `p4_machine`.
use Rattle.std.specs.Prelude.{List}
use Rattle.p4_tree.specs.Tree.{Program}
use Rattle.p4_tree.specs.View.{program_of}
use Rattle.p4_meaning.specs.Pass.{Registers}
use Rattle.p4_statements.specs.Runs.{cells_in}
use Rattle.p4_tables.specs.State.{Held}
use Rattle.p4_machine.specs.Buffers.{Place, place_of}
use Rattle.p4_slots.specs.SlotPlaces.{place_in}
use Rattle.p4_slots.specs.Machines.{cells_of}
use Rattle.p4_slots.specs.declared.switch.Kind as code_kind
use Rattle.p4_slots.specs.declared.switch.Kind.TheVariants as kind
use Rattle.p4_slots.specs.declared.switch.PlaceKind as code_place
use Rattle.p4_slots.specs.declared.switch.PlaceKind.TheVariants as place

-- the program of a switch, what its tables hold by their numbers, and its registers by their full names
abbrev pub program_in : code_kind.Kind → Program
program_in (kind.Slots s) = program_of s.program
program_in (kind.Names s) = program_of s.program

abbrev pub tables_in : code_kind.Kind → List Held
tables_in (kind.Slots s) = s.tables
tables_in (kind.Names s) = s.tables

abbrev pub registers_in : code_kind.Kind → Registers
registers_in (kind.Slots s) = cells_of s
registers_in (kind.Names s) = cells_in s.registers

-- a place of either
abbrev pub place_for : code_place.PlaceKind → Place
place_for (place.Slots q) = place_in q
place_for (place.Names q) = place_of q
