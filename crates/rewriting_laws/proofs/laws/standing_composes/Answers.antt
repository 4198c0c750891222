use Rattle.rewriting_laws.proofs.Stands.{standing_composes}
use Rattle.rewriting_laws.proofs.laws.standing_composes.Goals as goal

pub returns : goal.returns
returns c = standing_composes
