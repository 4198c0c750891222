use Rattle.event_room.proofs.Holding.{tables_hold}
use Rattle.event_room.proofs.laws.tables_hold.Goals as goal

pub returns : goal.returns
returns c = tables_hold
