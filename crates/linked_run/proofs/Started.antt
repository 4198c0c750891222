-- The schedule of a job can happen in a net that is its first.
use Rattle.std.proofs.Common.{[], length, refl}
use Rattle.path_runner.specs.Nets.{State, tables_of}
use Rattle.linked_jobs.specs.Job.{Job}
use Rattle.linked_jobs.specs.Run.{Linked}
use Rattle.linked_net.specs.First.{IsFirst}
use Rattle.event_room.specs.Jobs.{EventsHaveRoom}
use Rattle.linked_run.specs.Happening.{CanHappen}
use Rattle.linked_run.proofs.Room.{can_happen}

pub schedule_can_happen : (j : Job) (l : Linked) (s : State) → IsFirst j l s → EventsHaveRoom j l → CanHappen (length s.places) s.maps (tables_of s) j.events
schedule_can_happen j l s is has = can_happen j l has s (tables_of s) [] j.events refl is.of_job (has.started s is.of_job is.started)
