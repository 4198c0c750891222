-- What `run` and `wire` write: files of a run of linked programs, and a text for the sink. Read `Files` of run_texts before it, and
-- `Ends` and `Wire` of run_output.
use Rattle.std.specs.Prelude.{ℕ, List, length}
use Rattle.job_course.specs.Output.{Out}
use Rattle.run_output.specs.Ends as output
use Rattle.run_output.specs.Ends.{Parts}
use Rattle.run_output.specs.Wire as wire
use Rattle.linked_jobs.specs.Job.{Job}
use Rattle.linked_jobs.specs.Run.{Linked, programs_of, run_of}

abbrev pub parts_of : Job → Linked → Parts
parts_of j l =
    record { programs = programs_of j l; rows = l.rows; decls = j.property.decls; times = j.times; packets = length j.packets }

-- the files of the run of these programs in the job's world, and the summary for the sink
abbrev pub IsRunOutput : Job → Linked → (out : List ℕ) → Out → Type 0
IsRunOutput j l out given = output.IsRunOutput out (parts_of j l) j.network.names (run_of j l) given

-- the programs and the frames that left in it, and for the sink its reports and the summary
abbrev pub IsWireOutput : Job → Linked → (out : List ℕ) → Out → Type 0
IsWireOutput j l out given = wire.IsWireOutput out (parts_of j l) j.network.names (run_of j l) given
