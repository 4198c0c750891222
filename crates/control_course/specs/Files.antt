-- The file of contents, and the number of table items, as steps of a command: which file is asked for, which first refusals
-- there are, and what is given. Read `Course` of job_course, `Files` of network_course and `Lines` of table_course before it.
use Rattle.std.specs.Prelude.{ℕ, List, map, Option, Some, None, ⊤}
use Rattle.indus_tree.specs.Tree.{Decl, Property}
use Rattle.indus_tree.specs.State.{Contents}
use Rattle.network_run.specs.Events.{Event}
use Rattle.control_file.specs.Control.{all_unset, control_of}
use Rattle.table_items.specs.Items.{within_limits}
use Rattle.job_course.specs.declared.status.Status.TheVariants.{BadNetwork}
use Rattle.job_course.specs.Course.{Course, and_then, answer, give}
use Rattle.network_course.specs.Files.{value_course}
use Rattle.table_course.specs.Lines.{table_line}
use Rattle.control_course.specs.Lines.{too_many_line}

-- what the control variables of each switch of these names hold: what the file of this name says; where there is none, 0,
-- false or no keys
abbrev pub contents_course : (name : Option (List ℕ)) → List Decl → (switches : List (List ℕ)) → Course (List (List Contents))
contents_course None ds switches = give (map (λ _. all_unset ds) switches)
contents_course (Some name) ds switches = and_then (value_course name) (λ d. answer BadNetwork (table_line name) (control_of ds switches d))

-- there are not too many table items; a refusal names this file
abbrev pub items_answer : (name : List ℕ) → Property → (entries : List ℕ) → (contents : List (List Contents)) → List (Event Contents) → Course ⊤
items_answer name p entries contents events = answer BadNetwork (too_many_line name) (within_limits p entries contents events)
