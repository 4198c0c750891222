use Rattle.parted_programs.proofs.Given.{parted_is_given}
use Rattle.parted_programs.proofs.laws.parted_is_given.Goals as goal

pub returns : goal.returns
returns c = parted_is_given
