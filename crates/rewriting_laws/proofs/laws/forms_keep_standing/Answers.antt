use Rattle.rewriting_laws.proofs.Stands.{forms_keep_standing}
use Rattle.rewriting_laws.proofs.laws.forms_keep_standing.Goals as goal

pub returns : goal.returns
returns c = forms_keep_standing
