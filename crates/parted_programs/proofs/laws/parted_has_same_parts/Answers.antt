use Rattle.parted_programs.proofs.SameParts.{parted_has_same_parts}
use Rattle.parted_programs.proofs.laws.parted_has_same_parts.Goals as goal

pub returns : goal.returns
returns c = parted_has_same_parts
