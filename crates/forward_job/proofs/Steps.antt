-- A schedule of so many packets.
use Rattle.std.proofs.Common.{◌≡◌, ℕ, List, length, Option, None, Result, subst}
use Rattle.std.specs.Global.{Vec}
use Rattle.outside.specs.State.{StoreState}
use Rattle.network_file.specs.declared.event.Event.{Event}
use Rattle.job_course.specs.declared.status.Stop.{Stop}
use Rattle.job_course.specs.Steps.{Follows}
use Rattle.schedule_file.specs.Views.{event_views}
use Rattle.table_course.specs.Files.{events_course}
use Rattle.case_course.specs.Course.{Ground}
use Rattle.case_course.specs.Packets.{Packets}
use Rattle.forward_job.specs.Course.{around}

pub of_count : (name : Option (List ℕ)) (g : Ground) (ps : Packets) (n : ℕ) → n ≡ length ps.arrivals → (s t : StoreState) (r : Result (Vec Event) Stop)
    → Follows (events_course name (record { packets = n; decls = None; names = g.network.names })) event_views s t r → Follows (events_course name (around g ps)) event_views s t r
of_count name g ps n same s t r h = subst (λ (m : ℕ). Follows (events_course name (record { packets = m; decls = None; names = g.network.names })) event_views s t r) same h
