use Rattle.whole_properties.proofs.Few.{tables_are_few}
use Rattle.whole_properties.proofs.laws.tables_are_few.Goals as goal

pub returns : goal.returns
returns c = tables_are_few
