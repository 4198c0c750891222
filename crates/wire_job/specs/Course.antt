-- What `wire` reads, in order, and what it is to do. Read `Course` of run_job before it, `Files` of property_course, `Links` of
-- link_course, `Job` of linked_jobs, and `Line` and `Lines`.
use Rattle.std.specs.Prelude.{◌≡◌, ℕ, List, [], ◌∷◌, map, Option, Some, None, ⊤, if◌then◌else◌}
use Rattle.indus_tree.specs.Tree.{Decl, Property}
use Rattle.indus_tree.specs.Hops.{same_kind}
use Rattle.indus_tree.specs.declared.tree.DeclKind.TheVariants.{Control}
use Rattle.network_run.specs.World.{Arrival}
use Rattle.table_file.specs.Entries.{states_before}
use Rattle.control_file.specs.Control.{all_unset}
use Rattle.run_captures.specs.Captures.{Time}
use Rattle.job_course.specs.declared.status.Status.{Status}
use Rattle.job_course.specs.declared.status.Status.TheVariants.{BadProperty}
use Rattle.job_course.specs.declared.status.Area.TheVariants as area
use Rattle.job_course.specs.Course.{Course, file, decide, and_then, give}
use Rattle.property_course.specs.Files.{typed_property}
use Rattle.link_course.specs.Links.{link_course}
use Rattle.linked_jobs.specs.Job.{Job}
use Rattle.run_job.specs.Course.{Task}
use Rattle.wire_program.specs.WireProgram.{wire_program}
use Rattle.wire_job.specs.Line.{wire_network}
use Rattle.wire_job.specs.Lines.{control_line}

-- ---- the property

-- the name of the first control variable
abbrev pub first_control : List Decl → Option (List ℕ)
first_control [] = None
first_control (d ∷ ds) = if same_kind Control d.kind then Some d.name else first_control ds

-- the property declares none
abbrev pub IsUncontrolled : Property → ⊤ → Type 0
IsUncontrolled p free = first_control p.decls ≡ None

-- it declares one, which needs a file of contents
abbrev pub NeedsControl : (name : List ℕ) → Property → Status → (line : List ℕ) → Type 0
NeedsControl name p s l = (s ≡ BadProperty) × ((x : List ℕ) × (first_control p.decls ≡ Some x) × (l ≡ control_line name x))

abbrev pub uncontrolled : (name : List ℕ) → Property → Course ⊤
uncontrolled name p = decide (IsUncontrolled p) (NeedsControl name p)

-- ---- the frame

-- a frame's file, of at most 65,535 bytes
abbrev pub frame : (name : List ℕ) → Course (List ℕ)
frame name = file name 65535 area.Capture

-- ---- the job

-- a frame comes to port 1 of the first switch
abbrev pub arrival : (bytes : List ℕ) → Arrival
arrival bytes = record { switch = 0; port = 1; frame = bytes }

-- its time, which nothing that is written tells
abbrev pub beginning : Time
beginning = record { seconds = 0; micros = 0 }

-- the wire program at three switches in a line, where nothing is put into tables and no variable is set, and one packet
abbrev pub wire_job : Property → (bytes : List ℕ) → Job
wire_job p bytes =
    record {
      property = p;
      program = wire_program;
      network = wire_network;
      hops = 64;
      room = 128;
      tables = states_before wire_program wire_network.names;
      contents = map (λ name. all_unset p.decls) wire_network.names;
      packets = arrival bytes ∷ [];
      times = beginning ∷ [];
      events = [];
    }

-- with what is linked for it
unfoldable pub linked_course : Property → (bytes : List ℕ) → Course Task
linked_course p bytes = and_then (link_course wire_program p wire_network 128) (λ l. give (record { job = wire_job p bytes; linked = l }))

-- the job of a property's file and a frame's, or its first refusal
unfoldable pub wire_course : (property frame_name : List ℕ) → Course Task
wire_course property name =
    and_then (typed_property property) (λ p.
    and_then (uncontrolled property p) (λ free.
    and_then (frame name) (λ bytes.
    linked_course p bytes)))
