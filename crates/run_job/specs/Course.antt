-- What `run` and `link` read, in order, and what each file gives. Read `Files` of property_course, network_course, table_course and
-- control_course, `Course` of case_course, `Links` of link_course, and `Job` of linked_jobs, before it.
use Rattle.std.specs.Prelude.{true, ℕ, List, [], length, map, Option, Some, None, ⊤}
use Rattle.p4_tables.specs.State.{entries_in}
use Rattle.indus_tree.specs.Tree.{Property}
use Rattle.indus_tree.specs.State.{Contents}
use Rattle.network_run.specs.Events.{Event}
use Rattle.case_file.specs.Case.{Case}
use Rattle.table_file.specs.Entries.{States}
use Rattle.schedule_file.specs.Members.{Around}
use Rattle.job_course.specs.Course.{Course, and_then, give}
use Rattle.property_course.specs.Files.{typed_property}
use Rattle.network_course.specs.Files.{value_course, case_answer}
use Rattle.table_course.specs.Files.{tables_course, events_course}
use Rattle.control_course.specs.Files.{contents_course, items_answer}
use Rattle.case_course.specs.Course.{Ground, ground_course, packets_course}
use Rattle.case_course.specs.Packets.{Packets}
use Rattle.link_course.specs.Links.{Linked, link_course}
use Rattle.linked_jobs.specs.Job.{Job}

-- what `run` is to do, and what is linked for it
pub record Task : Type 0 where
  pub job : Job
  pub linked : Linked

-- what is read before the entries: the property, the program with its network, and what both are linked to
pub record Base : Type 0 where
  pub property : Property
  pub host : Ground
  pub linked : Linked

-- a name that is given, or another
abbrev pub name_or : (other : List ℕ) → Option (List ℕ) → List ℕ
name_or other None = other
name_or other (Some name) = name

-- the property's file, which a case names that is read with one
abbrev pub property_name : Case → List ℕ
property_name c = name_or [] c.property

unfoldable pub base_course : (name : List ℕ) → Case → Course Base
base_course name c =
    and_then (typed_property (property_name c)) (λ p.
    and_then (ground_course name c) (λ g.
    and_then (link_course g.program p g.network c.room) (λ l.
    give (record { property = p; host = g; linked = l }))))

-- what `link` reads: the case of this name up to what is linked
unfoldable pub linked_course : (name : List ℕ) → Course Base
linked_course name =
    and_then (value_course name) (λ d.
    and_then (case_answer true name d) (λ c.
    base_course name c))

-- the schedule speaks of so many packets, and sets the variables of the property
abbrev pub around : Base → Packets → Around
around b ps = record { packets = length ps.arrivals; decls = Some b.property.decls; names = b.host.network.names }

-- the file that a refusal of too many table items names: the schedule, or the case where there is none
abbrev pub items_name : (name : List ℕ) → Case → List ℕ
items_name name c = name_or name c.schedule

abbrev pub items_course : (name : List ℕ) → Case → Property → States → List (List Contents) → List (Event Contents) → Course ⊤
items_course name c p tables contents events = items_answer (items_name name c) p (map entries_in tables) contents events

-- what is read behind it: what the tables of each switch hold, the contents of control variables there, the packets, and the
-- schedule
pub record Rest : Type 0 where
  pub tables : States
  pub contents : List (List Contents)
  pub packets : Packets
  pub events : List (Event Contents)

-- the entries, the contents of control variables, the captures, the schedule, and the number of table items
unfoldable pub rest_course : (name : List ℕ) → Case → Base → Course Rest
rest_course name c b =
    and_then (tables_course c.entries b.host.program b.host.network.names) (λ tables.
    and_then (contents_course c.control b.property.decls b.host.network.names) (λ contents.
    and_then (packets_course name c b.host.places) (λ packets.
    and_then (events_course c.schedule (around b packets)) (λ events.
    and_then (items_course name c b.property tables contents events) (λ few.
    give (record { tables = tables; contents = contents; packets = packets; events = events }))))))

-- what is read as one job
abbrev pub task_from : Case → Base → Rest → Task
task_from c b r =
    record {
      job = record {
        property = b.property;
        program = b.host.program;
        network = b.host.network;
        hops = c.hops;
        room = c.room;
        tables = r.tables;
        contents = r.contents;
        packets = r.packets.arrivals;
        times = r.packets.times;
        events = r.events;
      };
      linked = b.linked;
    }

-- the job of the case of this name, with what is linked for it, or its first refusal
unfoldable pub run_course : (name : List ℕ) → Course Task
run_course name =
    and_then (value_course name) (λ d.
    and_then (case_answer true name d) (λ c.
    and_then (base_course name c) (λ b.
    and_then (rest_course name c b) (λ r.
    give (task_from c b r)))))
