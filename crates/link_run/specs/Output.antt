-- What `link` writes. Read `Course` of run_job and `Files` of run_texts before it.
use Rattle.std.specs.Prelude.{◌≡◌, ℕ, List, [], ◌∷◌, ◌++◌, length, map, codes}
use Rattle.std.specs.Fmt.{decimal}
use Rattle.std.specs.List.{range_with_len}
use Rattle.p4_tree.specs.Tree.{Program}
use Rattle.job_course.specs.Output.{Out}
use Rattle.run_texts.specs.Files.{linked_files}
use Rattle.linked_jobs.specs.Run.{Linked}
use Rattle.run_job.specs.Course.{Base}

-- the names of the switches, and their programs in the network's order
abbrev pub names_of : Base → List (List ℕ)
names_of b = b.host.network.names

abbrev pub programs_of : Base → Linked → List Program
programs_of b l = map l.programs (range_with_len 0 (length (names_of b)))

-- a line for so many switches
abbrev pub linked_line : (switches : ℕ) → List ℕ
linked_line n = codes "linked " ++ (decimal n ++ 10 ∷ [])

-- the text of each program, the tables that hold control variables, and the line for the sink
pub record IsLinkOutput (b : Base) (l : Linked) (out : List ℕ) (given : Out) : Type 0 where
  pub files : given.files ≡ linked_files out (programs_of b l) l.rows b.property.decls (names_of b)
  pub text : given.text ≡ linked_line (length (names_of b))
