use Rattle.flat_laws.proofs.Whole.{flat_does_the_same}
use Rattle.flat_laws.proofs.laws.flat_code_does_the_same.Goals as goal

pub returns : goal.returns
returns c = flat_does_the_same
