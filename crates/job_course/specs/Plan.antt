-- What a command's plan says: the job that its course gives, and what that writes.
use Rattle.std.specs.Prelude.{Result, Ok, Err, string_bytes}
use Rattle.outside.specs.State.{StoreState}
use Rattle.job_course.specs.declared.delivery.Output.{Output}
use Rattle.job_course.specs.declared.status.Stop.{Stop}
use Rattle.job_course.specs.declared.status.Stop.TheVariants.{Refused, Starved}
use Rattle.job_course.specs.Course.{Course}
use Rattle.job_course.specs.Output.{Out, out_of}
use Rattle.job_course.specs.Steps.{OnlyRead, Finds, Stops}

-- it was stopped, or memory was wanting
abbrev pub PlansStop : {J : Type 0} → Course J → StoreState → StoreState → Stop → Type 0
PlansStop c old new (Refused r) = Stops c old new r.status (string_bytes r.line)
PlansStop c old new Starved = OnlyRead old new

module _ {J : Type 0} (Outputs : J → Out → Type 0) where
  -- a job that the course gives, and what it writes
  pub record Makes (c : Course J) (old new : StoreState) (out : Out) : Type 0 where
    pub job : J
    pub finds : Finds c old new job
    pub outputs : Outputs job out

  -- a plan keeps to the course
  abbrev pub Plans : Course J → StoreState → StoreState → Result Output Stop → Type 0
  Plans c old new (Ok o) = Makes c old new (out_of o)
  Plans c old new (Err stop) = PlansStop c old new stop
