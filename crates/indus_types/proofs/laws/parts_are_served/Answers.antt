use Rattle.indus_types.proofs.Served.{parts_served}
use Rattle.indus_types.proofs.laws.parts_are_served.Goals as goal

pub returns : goal.returns
returns c = parts_served
