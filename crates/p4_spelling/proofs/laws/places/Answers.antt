use Rattle.p4_spelling.proofs.ProgramsRise.{places_rise}
use Rattle.p4_spelling.proofs.laws.places.Goals as goal

pub returns : goal.returns
returns c = places_rise
