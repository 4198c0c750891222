-- The run of a job: the network's run of its linked programs. Read `Job` before it, `Rows` of loaded_tables, `Maps` of
-- control_maps, `Simpler` of program_linker, and `World` of the network's run.
use Rattle.std.specs.Prelude.{ℕ, List, [], length, map, get_or}
use Rattle.std.specs.List.{range_with_len}
use Rattle.p4_tree.specs.Tree.{Program}
use Rattle.p4_meaning.specs.Parts.{parts_of}
use Rattle.p4_meaning.specs.Pass.{Kept, Queued}
use Rattle.p4_meaning.specs.Tables.{Tables}
use Rattle.p4_tables.specs.Named.{tables_in}
use Rattle.indus_tree.specs.State.{Contents}
use Rattle.indus_types.specs.Sums.{property_bits}
use Rattle.tele_layout.specs.Telemetry.{whole_bytes}
use Rattle.network_run.specs.Machine.{Machine}
use Rattle.network_run.specs.Network.{Net}
use Rattle.network_run.specs.World.{World, net_at_end}
use Rattle.network_file.specs.Wiring.{wiring_of}
use Rattle.switch_machines.specs.Programs.{Controls, Programs, machine_with}
use Rattle.control_maps.specs.Numbers.{Numbered}
use Rattle.path_runner.specs.Nets.{controls_in}
use Rattle.loaded_tables.specs.Rows.{Row, numbered_rows}
use Rattle.linked_starts.specs.Starts.{found_row}
use Rattle.program_linker.specs.Simpler.{AreSimplyLinked}
use Rattle.read_contents.specs.Fits.{contents_at}
use Rattle.linked_jobs.specs.Job.{Job}

-- what is linked: the program of each switch, and the rows of the map, which say which tables of each of them hold the contents
-- of which control variables
pub record Linked : Type 0 where
  pub programs : (switch : ℕ) → Program
  pub rows : List Row

-- the programs of the job's switches, in the network's order, and the map of each of them
abbrev pub programs_of : Job → Linked → List Program
programs_of j l = map l.programs (range_with_len 0 (length j.network.names))

abbrev pub maps_of : Job → Linked → List (List Numbered)
maps_of j l = map (λ p. numbered_rows p j.property.decls l.rows) (programs_of j l)

-- these are a linker's programs, or such with other values in them, and a linker's rows
abbrev pub IsLinked : Job → Linked → Type 0
IsLinked j l = AreSimplyLinked j.program j.property j.network (programs_of j l) (map found_row l.rows)

-- programs in the network's order, and rows; without a switch there is no program
abbrev pub no_program : Program
no_program = record { at = 0; tops = []; main = [] }

abbrev pub linked_in : List Program → List Row → Linked
linked_in ps rows = record { programs = λ s. get_or ps s no_program; rows = rows }

-- its world: what the tables of the given program hold at each switch, by their names, and the contents of control variables
-- by their numbers
abbrev pub world_of : Job → World Tables Contents
world_of j =
    record {
      hops = j.hops;
      entries = λ s. tables_in (parts_of j.program) (get_or j.tables s []);
      contents = λ s. contents_at j.property.decls (get_or j.contents s []);
      packets = j.packets;
      events = j.events;
    }

-- at each switch the tables of its map hold the contents of their variables
abbrev pub controls_of : Job → Linked → (switch : ℕ) → Controls Contents
controls_of j l = controls_in (programs_of j l) (maps_of j l)

-- the linked programs at the switches
abbrev pub linked_programs : Linked → Programs
linked_programs l = record { program = λ s. parts_of (l.programs s); reads = λ s. [] }

abbrev pub linked_machine : Job → Linked → Machine Tables Kept Queued Contents
linked_machine j l = machine_with (controls_of j l) (linked_programs l)

-- the bytes of telemetry before a frame on a link
abbrev pub telemetry_size : Job → ℕ
telemetry_size j = whole_bytes (property_bits j.property)

-- the network at the end: behind the schedule, and behind the closing phase in which each packet goes on to its end
unfoldable pub run_of : Job → Linked → Net Kept Queued Contents
run_of j l = net_at_end (linked_machine j l) (wiring_of j.network) (telemetry_size j) (world_of j)
