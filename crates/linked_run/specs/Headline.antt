-- The headline of docs/HEADLINE.md, for a job of `run` and for one of `wire`. Read `Claims` of run_headline and `Output` before it.
use Rattle.std.specs.Prelude.{ℕ, List}
use Rattle.job_course.specs.Output.{Out}
use Rattle.linked_jobs.specs.Job.{Job}
use Rattle.linked_jobs.specs.Run.{Linked}
use Rattle.run_headline.specs.Claims.{Claims}
use Rattle.linked_run.specs.Output.{IsRunOutput, IsWireOutput}

pub record Headline (j : Job) (out : List ℕ) (given : Out) : Type 0 where
  -- There are linked programs,
  pub linked : Linked
  -- of which the sentence holds, a field for each phrase;
  pub claims : Claims j linked
  -- and it is these that `hydra run` writes and executes: the files are those of their run in the job's world.
  pub writes : IsRunOutput j linked out given

pub record WireHeadline (j : Job) (out : List ℕ) (given : Out) : Type 0 where
  -- There are linked programs,
  pub linked : Linked
  -- of which the sentence holds, a field for each phrase;
  pub claims : Claims j linked
  -- and it is these that `hydra wire` writes and executes: the files and the text are those of their run in the job's world.
  pub writes : IsWireOutput j linked out given
