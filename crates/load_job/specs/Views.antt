-- What is read, without where it lies in memory.
use Rattle.run_job.specs.Course.{Task}
use Rattle.run_job.specs.Views.{task_of}
use Rattle.load_job.specs.declared.load.MadeJob.{MadeJob}

abbrev pub task_in : MadeJob → Task
task_in m = task_of m.job
