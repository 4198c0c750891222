use Rattle.event_room.proofs.Room.{contents_are_taken}
use Rattle.event_room.proofs.laws.contents_are_taken.Goals as goal

pub returns : goal.returns
returns c = contents_are_taken
