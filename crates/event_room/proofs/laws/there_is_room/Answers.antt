use Rattle.event_room.proofs.Room.{there_is_room}
use Rattle.event_room.proofs.laws.there_is_room.Goals as goal

pub returns : goal.returns
returns c = there_is_room
