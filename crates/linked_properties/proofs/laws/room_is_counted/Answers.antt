use Rattle.linked_properties.proofs.Counted.{room_is_counted}
use Rattle.linked_properties.proofs.laws.room_is_counted.Goals as goal

pub returns : goal.returns
returns c = room_is_counted
