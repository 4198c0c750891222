-- What `load` is to do. Read `Made` of load_maker, `Course` of run_job, and `Within`, before it.
use Rattle.std.specs.Prelude.{ℕ, List, codes}
use Rattle.job_course.specs.Course.{Course}
use Rattle.load_maker.specs.Values.{file_name}
use Rattle.load_maker.specs.Made.{made_files}
use Rattle.run_job.specs.Course.{Task, run_course}
use Rattle.load_job.specs.Within.{held_by, within}

-- the job of `run` on the files of the made case
abbrev pub load_course : (n : ℕ) → (out : List ℕ) → Course Task
load_course n out = within (held_by (made_files n out)) (run_course (file_name out (codes "case.json")))
