-- What is handed on beside a net that is started, as the job has it.
use Rattle.std.specs.Prelude.{◌≡◌, length}
use Rattle.linked_jobs.specs.declared.job.LinkedJob.{LinkedJob}
use Rattle.p4_machine.specs.declared.pass.Pass.{Ghosts}
use Rattle.linked_net.specs.declared.starting.Started.{Started}

pub record IsHandedOn {P Q : Type 0} {g : Ghosts P Q} (j : LinkedJob) (s : Started P Q g) : Type 0 where
  pub property : s.property ≡ j.property
  pub program : s.program ≡ j.program
  pub map : s.map ≡ j.linked.map
  pub layout : s.layout ≡ j.linked.layout
  pub times : s.times ≡ j.times
  pub events : s.events ≡ j.events
  pub packets : s.packets ≡ length j.packets.items
