use Rattle.event_room.proofs.Jobs.{jobs_have_room}
use Rattle.event_room.proofs.laws.jobs_have_room.Goals as goal

pub returns : goal.returns
returns c = jobs_have_room
