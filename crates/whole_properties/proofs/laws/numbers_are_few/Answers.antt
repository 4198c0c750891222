use Rattle.whole_properties.proofs.Few.{numbers_are_few}
use Rattle.whole_properties.proofs.laws.numbers_are_few.Goals as goal

pub returns : goal.returns
returns c = numbers_are_few
