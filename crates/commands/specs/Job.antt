-- What a command is to do.
use Rattle.std.specs.Prelude.{ℕ, List}
use Rattle.indus_tree.specs.Tree.{Property}
use Rattle.forward_run.specs.Job as forward_job
use Rattle.run_job.specs.Course.{Base, Task}

pub data Job : Type 0 where
  -- what `wire` is to do, with what is linked for it, and the front of the names of what is written
  wire : (task : Task) (out : List ℕ) → Job
  -- a property that breaks no rule of types
  check : (property : Property) → Job
  -- what `forward` is to do, and the front of the names
  forward : (job : forward_job.Job) (out : List ℕ) → Job
  -- what `run` is to do, with what is linked for it, and the front of the names
  run : (task : Task) (out : List ℕ) → Job
  -- what is linked, and the front of the names
  link : (base : Base) (out : List ℕ) → Job
  -- the number of the made case, what `run` is to do with it, and the front of the names
  load : (number : ℕ) (task : Task) (out : List ℕ) → Job
