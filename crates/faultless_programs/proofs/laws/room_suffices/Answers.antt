use Rattle.faultless_programs.proofs.Within.{room_suffices}
use Rattle.faultless_programs.proofs.laws.room_suffices.Goals as goal

pub returns : goal.returns
returns c = room_suffices
