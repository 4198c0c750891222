use Rattle.rewriting_meaning.proofs.Acts.{programs_calls}
use Rattle.rewriting_meaning.proofs.laws.calls_of_programs_do_the_same.Goals as goal

pub returns : goal.returns
returns c = programs_calls
