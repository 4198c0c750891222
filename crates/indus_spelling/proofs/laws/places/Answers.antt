use Rattle.indus_spelling.proofs.Rising.{places_rise}
use Rattle.indus_spelling.proofs.laws.places.Goals as goal

pub returns : goal.returns
returns c = places_rise
