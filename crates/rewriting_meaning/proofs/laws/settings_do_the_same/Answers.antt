use Rattle.rewriting_meaning.proofs.Called.{first_values_same}
use Rattle.rewriting_meaning.proofs.laws.settings_do_the_same.Goals as goal

pub returns : goal.returns
returns c = first_values_same
