-- Linking as a step of a command: which refusals there are, and what is linked. Read `Course` of job_course, `Faults` of
-- link_faults, `Linked` of program_linker, and `Lines`, before it.
use Rattle.std.specs.Prelude.{◌≡◌, ℕ, List, map, Some, None}
use Rattle.indus_tree.specs.Tree.{Property}
use Rattle.p4_tree.specs.Tree.{Program}
use Rattle.network_file.specs.Network.{Network}
use Rattle.job_course.specs.declared.status.Status.{Status}
use Rattle.job_course.specs.declared.status.Status.TheVariants.{NotLinked}
use Rattle.job_course.specs.Course.{Course, decide}
use Rattle.link_faults.specs.Refusals.{Refusal}
use Rattle.link_faults.specs.Faults.{link_fault}
use Rattle.loaded_tables.specs.Rows.{Row}
use Rattle.linked_starts.specs.Starts.{found_row}
use Rattle.program_linker.specs.Linked.{AreLinked}
use Rattle.link_course.specs.Lines.{link_line}

-- what is linked: the program of each switch, in the network's order, and the rows of the map, which say which tables of each
-- of them hold the contents of which control variables
pub record Linked : Type 0 where
  pub programs : List Program
  pub rows : List Row

-- f: the program that is given. room: how many bytes of telemetry a frame may carry

-- there is no fault, and these are a linker's programs and its rows
pub record LinksTo (f : Program) (property : Property) (net : Network) (room : ℕ) (l : Linked) : Type 0 where
  pub faultless : link_fault f property room ≡ None
  pub linked : AreLinked f property net l.programs (map found_row l.rows)

-- the first of five refusals
abbrev pub IsNotLinked : (f : Program) → Property → (room : ℕ) → Status → (line : List ℕ) → Type 0
IsNotLinked f property room s l = (s ≡ NotLinked) × ((r : Refusal) × (link_fault f property room ≡ Some r) × (l ≡ link_line r))

abbrev pub link_course : (f : Program) → Property → Network → (room : ℕ) → Course Linked
link_course f property net room = decide (LinksTo f property net room) (IsNotLinked f property room)
