use Rattle.network_run.proofs.Passage.{drop_is, passage_is}
use Rattle.network_run.proofs.laws.a_passage_is_a_hop.Goals as goal

pub returns-clause-dropped : goal.returns-clause-dropped
returns-clause-dropped g c = λ p net w i s port view k. drop_is p net w i s port view k

pub returns-clause-passed : goal.returns-clause-passed
returns-clause-passed g c = λ p net w i s port to entry exit before after. passage_is p net w i s port to entry exit before after
