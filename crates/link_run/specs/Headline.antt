-- The headline of docs/HEADLINE.md, as far as nothing is run. Read `Claims` of run_headline, `Simpler` of program_linker, and
-- `Output`, before it.
use Rattle.std.specs.Prelude.{◌≡◌, ℕ, ◌<◌, List, length, map}
use Rattle.p4_rules.specs.ProgramRules.{IsWellTyped}
use Rattle.p4_printer.specs.Programs.{program_text}
use Rattle.p4_printer.specs.Printed.{IsPrinted}
use Rattle.job_course.specs.Output.{Out}
use Rattle.linked_starts.specs.Starts.{found_row}
use Rattle.program_linker.specs.Simpler.{AreSimplyLinked}
use Rattle.linked_jobs.specs.Job.{Job, IsReady}
use Rattle.linked_jobs.specs.Run.{Linked}
use Rattle.run_headline.specs.Claims.{Claims}
use Rattle.run_job.specs.Course.{Base}
use Rattle.link_run.specs.Output.{IsLinkOutput, names_of, programs_of}

-- a job of `run` on the same property, program and network
pub record IsOn (b : Base) (j : Job) : Type 0 where
  pub property : j.property ≡ b.property
  pub program : j.program ≡ b.host.program
  pub network : j.network ≡ b.host.network

pub record LinkHeadline (b : Base) (out : List ℕ) (given : Out) : Type 0 where
  -- There are linked programs, those of a linker, or such with other values in them,
  pub linked : Linked
  pub form : AreSimplyLinked b.host.program b.property b.host.network (programs_of b linked) (map found_row linked.rows)
  pub typed : (s : ℕ) → s < length (names_of b) → IsWellTyped (linked.programs s)
  -- which the texts spell,
  pub spelled : (s : ℕ) → s < length (names_of b) → IsPrinted (linked.programs s) (program_text (linked.programs s))
  -- of which the sentence holds for every job on them,
  pub claims : (j : Job) → IsReady j → IsOn b j → Claims j linked
  -- and it is these that `hydra link` writes.
  pub writes : IsLinkOutput b linked out given
