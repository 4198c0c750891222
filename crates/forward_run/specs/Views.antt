-- What a job of the program stands for.
use Rattle.std.specs.Prelude.{map}
use Rattle.p4_tree.specs.View.{program_of}
use Rattle.network_file.specs.Events.{event_of}
use Rattle.path_runner.specs.Packets.{arrival_of}
use Rattle.run_captures.specs.Views.{time_view}
use Rattle.forward_run.specs.Job as jobs
use Rattle.forward_run.specs.declared.job.ForwardJob.{ForwardJob}

abbrev pub job_of : ForwardJob → jobs.Job
job_of j =
    record {
      program = program_of j.program;
      network = j.network;
      hops = j.hops;
      tables = j.tables.items;
      packets = map arrival_of j.packets.items;
      times = map time_view j.times.items;
      events = map event_of j.events.items;
    }
