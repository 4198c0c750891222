use Rattle.faultless_programs.proofs.Within.{linked_in_room}
use Rattle.faultless_programs.proofs.laws.linked_in_room.Goals as goal

pub returns : goal.returns
returns c = linked_in_room c.reaches_is_exact.ensures
