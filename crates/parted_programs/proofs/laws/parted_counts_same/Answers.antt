use Rattle.parted_programs.proofs.Given.{parted_counts_same}
use Rattle.parted_programs.proofs.laws.parted_counts_same.Goals as goal

pub returns : goal.returns
returns c = parted_counts_same
