use Rattle.rewriting_meaning.proofs.Acts.{name_stays, params_stay, acts_same}
use Rattle.rewriting_meaning.proofs.laws.actions_stay.Goals as goal

pub returns : goal.returns
returns c = record { names = name_stays; params = params_stay; does_same = λ p h s sc a b r f. acts_same sc a b r p h s f }
