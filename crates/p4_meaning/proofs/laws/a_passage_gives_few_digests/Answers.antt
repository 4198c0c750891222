use Rattle.p4_meaning.proofs.FewDigests.{enter_few, leave_few}
use Rattle.p4_meaning.proofs.laws.a_passage_gives_few_digests.Goals as goal

pub returns : goal.returns
returns c = λ p held l cells port frame q. (enter_few p held l cells port frame, leave_few p held l cells q)
