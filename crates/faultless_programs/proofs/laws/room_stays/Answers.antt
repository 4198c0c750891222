use Rattle.faultless_programs.proofs.Within.{room_stays}
use Rattle.faultless_programs.proofs.laws.room_stays.Goals as goal

pub returns : goal.returns
returns c = room_stays
