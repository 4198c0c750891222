use Rattle.p4_meaning.proofs.Choices.{choice_is, one_rank}
use Rattle.p4_meaning.proofs.laws.a_walk_finds_the_choice.Goals as goal

pub returns-clause-choice : goal.returns-clause-choice
returns-clause-choice c = λ t entries keys. choice_is t keys entries

pub returns-clause-rank : goal.returns-clause-rank
returns-clause-rank c = λ t entries keys e f h k. one_rank t keys entries e f h k
