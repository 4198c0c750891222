-- The files of entries and of the schedule, as steps of a command: which are asked for, which first refusals they admit,
-- and what they give. Read `Course` of job_course, `Files` of network_course, and `Lines`, before it.
use Rattle.std.specs.Prelude.{ℕ, List, [], Option, Some, None}
use Rattle.p4_tree.specs.Tree.{Program}
use Rattle.indus_tree.specs.State.{Contents}
use Rattle.network_run.specs.Events.{Event}
use Rattle.table_file.specs.Entries.{States, states_before, entries_of}
use Rattle.schedule_file.specs.Members.{Around}
use Rattle.schedule_file.specs.Schedule.{schedule_of}
use Rattle.job_course.specs.declared.status.Status.TheVariants.{BadNetwork}
use Rattle.job_course.specs.Course.{Course, and_then, answer, give}
use Rattle.network_course.specs.Files.{value_course}
use Rattle.table_course.specs.Lines.{table_line, schedule_line}

-- what the tables of each switch of these names hold: what the file of this name says, or where there is none what the
-- program has
abbrev pub tables_course : (name : Option (List ℕ)) → Program → (switches : List (List ℕ)) → Course States
tables_course None p switches = give (states_before p switches)
tables_course (Some name) p switches = and_then (value_course name) (λ d. answer BadNetwork (table_line name) (entries_of p switches d))

-- the events of the schedule of this name; where there is none, there are none
abbrev pub events_course : (name : Option (List ℕ)) → Around → Course (List (Event Contents))
events_course None a = give []
events_course (Some name) a = and_then (value_course name) (λ d. answer BadNetwork (schedule_line name) (schedule_of a d))
