-- The run of a job: the network's run of its program alone. Read `Job` before it, `Programs` of switch_machines, and `World` of
-- the network's run.
use Rattle.std.specs.Prelude.{[], get_or}
use Rattle.p4_meaning.specs.Parts.{parts_of}
use Rattle.p4_meaning.specs.Pass.{Kept, Queued}
use Rattle.p4_meaning.specs.Tables.{Tables}
use Rattle.p4_tables.specs.Named.{tables_in}
use Rattle.indus_tree.specs.State.{Contents, members}
use Rattle.network_run.specs.Network.{Net}
use Rattle.network_run.specs.World.{World, net_at_end}
use Rattle.network_file.specs.Wiring.{wiring_of}
use Rattle.switch_machines.specs.Programs.{Programs, machine_of}
use Rattle.forward_run.specs.Job.{Job}

-- the program at every switch. There is no property, so nothing is read for one
abbrev pub programs_of : Job → Programs
programs_of j = record { program = λ s. parts_of j.program; reads = λ s. [] }

-- its world: what the tables of each switch hold, by their names. There are no control variables, so their contents are no
-- matter
abbrev pub world_of : Job → World Tables Contents
world_of j =
    record {
      hops = j.hops;
      entries = λ s. tables_in (parts_of j.program) (get_or j.tables s []);
      contents = λ s v. members [];
      packets = j.packets;
      events = j.events;
    }

-- the network at the end: behind the schedule, and behind the closing phase in which each packet goes on to its end. Links
-- carry frames without telemetry
unfoldable pub run_of : Job → Net Kept Queued Contents
run_of j = net_at_end (machine_of (programs_of j)) (wiring_of j.network) 0 (world_of j)
