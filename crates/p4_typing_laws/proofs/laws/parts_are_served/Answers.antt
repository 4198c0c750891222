use Rattle.p4_typing_laws.proofs.Served.{each_served}
use Rattle.p4_typing_laws.proofs.laws.parts_are_served.Goals as goal

pub returns : goal.returns
returns c = each_served
