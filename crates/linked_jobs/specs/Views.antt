-- What a job of the program stands for.
use Rattle.std.specs.Prelude.{◌≡◌, List, map, All}
use Rattle.p4_tree.specs.Tree.{Program}
use Rattle.p4_tree.specs.View.{program_of}
use Rattle.p4_printer.specs.CanSpell.{CanSpell}
use Rattle.indus_tree.specs.View.{property_of}
use Rattle.control_file.specs.Views.{switches_view}
use Rattle.network_file.specs.Events.{event_of}
use Rattle.path_runner.specs.Packets.{arrival_of}
use Rattle.run_captures.specs.Views.{time_view}
use Rattle.loaded_tables.specs.Rows.{Row}
use Rattle.tele_layout.specs.Layouts.{IsLayoutOf}
use Rattle.linked_starts.specs.Starts.{found_row}
use Rattle.program_linker.specs.Linked.{AreLinked}
use Rattle.program_linker.specs.Simpler.{AreSimplyLinked}
use Rattle.program_linker.specs.declared.linking.Linked.{Linked}
use Rattle.linked_jobs.specs.Job as jobs
use Rattle.linked_jobs.specs.Job.{IsReady}
use Rattle.linked_jobs.specs.Run as run
use Rattle.linked_jobs.specs.Run.{programs_of}
use Rattle.linked_jobs.specs.declared.job.LinkedJob.{LinkedJob}

abbrev pub job_of : LinkedJob → jobs.Job
job_of j =
    record {
      property = property_of j.property;
      program = program_of j.program;
      network = j.network;
      hops = j.hops;
      room = j.room;
      tables = j.tables.items;
      contents = switches_view j.contents;
      packets = map arrival_of j.packets.items;
      times = map time_view j.times.items;
      events = map event_of j.events.items;
    }

-- the programs and the rows that a linker answered
abbrev pub programs_in : Linked → List Program
programs_in l = map program_of l.programs.items

abbrev pub rows_in : Linked → List Row
rows_in l = l.map.tables.items

-- they are these
pub record AreThese (j : LinkedJob) (l : run.Linked) : Type 0 where
  pub programs : programs_of (job_of j) l ≡ programs_in j.linked
  pub rows : l.rows ≡ rows_in j.linked

-- what is known of a job whose files were read: it is ready, and what is linked is a linker's answer, which can be printed
pub record IsLinkedJob (j : LinkedJob) : Type 0 where
  pub ready : IsReady (job_of j)
  pub linked : AreLinked (program_of j.program) (property_of j.property) j.network (programs_in j.linked) (map found_row (rows_in j.linked))
  pub spelled : All (λ t. CanSpell (program_of t)) j.linked.programs.items
  pub layout : IsLayoutOf (property_of j.property) j.linked.layout

-- the same of a job whose programs are a linker's with other values in them
pub record IsSimplerJob (j : LinkedJob) : Type 0 where
  pub ready : IsReady (job_of j)
  pub linked : AreSimplyLinked (program_of j.program) (property_of j.property) j.network (programs_in j.linked) (map found_row (rows_in j.linked))
  pub spelled : All (λ t. CanSpell (program_of t)) j.linked.programs.items
  pub layout : IsLayoutOf (property_of j.property) j.linked.layout
