use Rattle.parted_programs.proofs.FreeNames.{without_exits_is_free}
use Rattle.parted_programs.proofs.laws.without_exits_is_free.Goals as goal

pub returns : goal.returns
returns c = without_exits_is_free
