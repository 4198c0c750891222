-- What `forward` reads, in order, and what each file gives. Read `Course` of case_course, and `Files` of network_course and
-- table_course, before it.
use Rattle.std.specs.Prelude.{false, ℕ, List, length, None}
use Rattle.indus_tree.specs.State.{Contents}
use Rattle.network_run.specs.Events.{Event}
use Rattle.case_file.specs.Case.{Case}
use Rattle.table_file.specs.Entries.{States}
use Rattle.schedule_file.specs.Members.{Around}
use Rattle.job_course.specs.Course.{Course, and_then, give}
use Rattle.network_course.specs.Files.{value_course, case_answer}
use Rattle.table_course.specs.Files.{tables_course, events_course}
use Rattle.case_course.specs.Course.{Ground, ground_course, packets_course}
use Rattle.case_course.specs.Packets.{Packets}
use Rattle.forward_run.specs.Job.{Job}

-- the schedule speaks of so many packets. There is no property, so what it sets is passed over
abbrev pub around : Ground → Packets → Around
around g ps = record { packets = length ps.arrivals; decls = None; names = g.network.names }

abbrev pub job_from : Case → Ground → States → Packets → List (Event Contents) → Job
job_from c g tables ps events =
    record { program = g.program; network = g.network; hops = c.hops; tables = tables; packets = ps.arrivals; times = ps.times; events = events }

-- the entries, the captures, and the schedule
unfoldable pub loaded_course : (name : List ℕ) → Case → Ground → Course Job
loaded_course name c g =
    and_then (tables_course c.entries g.program g.network.names) (λ tables.
    and_then (packets_course name c g.places) (λ packets.
    and_then (events_course c.schedule (around g packets)) (λ events.
    give (job_from c g tables packets events))))

-- the job of the case of this name, or its first refusal
unfoldable pub forward_course : (name : List ℕ) → Course Job
forward_course name =
    and_then (value_course name) (λ d.
    and_then (case_answer false name d) (λ c.
    and_then (ground_course name c) (λ g.
    loaded_course name c g)))
