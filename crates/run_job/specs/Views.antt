-- What is read, without where it lies in memory.
use Rattle.std.specs.Prelude.{ℕ, ◌≤◌, List, length, map, All}
use Rattle.indus_tree.specs.View.{property_of}
use Rattle.p4_tree.specs.View.{program_of}
use Rattle.p4_printer.specs.CanSpell.{CanSpell}
use Rattle.control_file.specs.Views.{switches_view}
use Rattle.schedule_file.specs.Views.{event_views}
use Rattle.network_course.specs.Views.{place_views}
use Rattle.network_course.specs.declared.places.Place.{Place}
use Rattle.case_course.specs.Views.{packets_view}
use Rattle.link_course.specs.Views.{linked_of}
use Rattle.linked_properties.specs.Linked.{AreTextNames}
use Rattle.linked_starts.specs.Starts.{found_row}
use Rattle.program_linker.specs.Linked.{AreLinked}
use Rattle.linked_jobs.specs.Views.{job_of, programs_in, rows_in}
use Rattle.linked_jobs.specs.declared.job.LinkedJob.{LinkedJob}
use Rattle.run_job.specs.Course as course
use Rattle.run_job.specs.declared.load.Site.{Site}
use Rattle.run_job.specs.declared.load.Base.{Base}
use Rattle.run_job.specs.declared.load.Rest.{Rest}

-- with where the captures enter
abbrev pub base_at : Site → List Place → course.Base
base_at s ps =
    record {
      property = property_of s.property;
      host = record { program = program_of s.program; network = s.network; places = place_views ps };
      linked = linked_of s.linked;
    }

abbrev pub base_of : Base → course.Base
base_of b = base_at b.site b.places.items

abbrev pub rest_of : Rest → course.Rest
rest_of r = record { tables = r.tables.items; contents = switches_view r.contents; packets = packets_view r.packets; events = event_views r.events }

abbrev pub task_of : LinkedJob → course.Task
task_of j = record { job = job_of j; linked = linked_of j.linked }

-- what is known of what was read up to what is linked: a linker's answer, which can be printed
pub record IsLinkedBase (b : Base) : Type 0 where
  pub names : AreTextNames (property_of b.site.property).decls
  pub few : length b.site.network.names ≤ 256
  pub linked : AreLinked (program_of b.site.program) (property_of b.site.property) b.site.network (programs_in b.site.linked) (map found_row (rows_in b.site.linked))
  pub spelled : All (λ t. CanSpell (program_of t)) b.site.linked.programs.items
