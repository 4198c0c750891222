-- A net before the first event of a job. Read `Run` of linked_jobs before it, `Nets` of path_runner, and `Jobs` of event_room.
use Rattle.std.specs.Prelude.{◌≡◌, ℕ, map, slice_get, Some}
use Rattle.p4_tables.specs.Programs.{IsStateOf}
use Rattle.network_run.specs.World.{first_net, limits_of}
use Rattle.path_runner.specs.Nets as nets
use Rattle.path_runner.specs.Nets.{Switch, State, Shows}
use Rattle.event_room.specs.Jobs.{IsOfJob, IsStarted}
use Rattle.linked_jobs.specs.Job.{Job}
use Rattle.linked_jobs.specs.Run.{Linked, programs_of, world_of, controls_of, linked_programs, linked_machine, telemetry_size}

-- s: what the net holds
pub record IsFirst (j : Job) (l : Linked) (s : State) : Type 0 where
  -- it stands for the first network of the job's world, in which the linked programs run
  pub shows : Shows (linked_programs l) s (first_net (linked_machine j l) (world_of j))
  -- the tables of its maps are those that hold control variables there
  pub controls : nets.controls_of s ≡ controls_of j l
  pub network : s.network ≡ j.network
  -- links carry frames with telemetry
  pub limits : s.limits ≡ limits_of (world_of j) (telemetry_size j)
  pub programs : map (λ x. x.program) s.switches ≡ programs_of j l
  -- it has a switch and a map for each switch of the network, and a place for each packet
  pub of_job : IsOfJob j l s
  -- each switch was loaded for the job, with tables of its linked program
  pub started : (k : ℕ) (x : Switch) → slice_get s.switches k ≡ Some x → IsStarted j l k x
  pub tables : (k : ℕ) (x : Switch) → slice_get s.switches k ≡ Some x → IsStateOf x.program x.tables
