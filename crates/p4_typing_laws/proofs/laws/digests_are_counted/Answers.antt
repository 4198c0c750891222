use Rattle.p4_typing_laws.proofs.CountedPassages.{digests_counted}
use Rattle.p4_typing_laws.proofs.laws.digests_are_counted.Goals as goal

pub returns : goal.returns
returns c = digests_counted c.a_passage_gives_few_digests.ensures
