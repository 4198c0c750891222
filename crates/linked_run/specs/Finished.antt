-- A run of linked programs at its end. Read `Claims` of run_headline before it, `Ends` of run_output, and `Output`.
use Rattle.std.specs.Prelude.{◌≡◌}
use Rattle.path_runner.specs.Nets.{State, Shows}
use Rattle.run_output.specs.Ends.{Parts, IsEnd}
use Rattle.linked_jobs.specs.Job.{Job}
use Rattle.linked_jobs.specs.Run.{Linked, linked_programs, run_of}
use Rattle.run_headline.specs.Claims.{Claims}
use Rattle.linked_run.specs.Output.{parts_of}

-- x: what was run; s: the state at the end
pub record IsFinished (j : Job) (x : Parts) (s : State) : Type 0 where
  -- there are linked programs, of which the headline's sentence holds,
  pub linked : Linked
  pub claims : Claims j linked
  -- and it is these that were run, on the job's network,
  pub parts : x ≡ parts_of j linked
  pub network : s.network ≡ j.network
  -- to the end that their run has in the job's world
  pub end : IsEnd x.programs s
  pub shows : Shows (linked_programs linked) s (run_of j linked)
