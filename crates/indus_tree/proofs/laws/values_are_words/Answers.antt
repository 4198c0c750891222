-- By the induction over expressions.
use Rattle.indus_tree.proofs.WordsLemmas.{value_word}
use Rattle.indus_tree.proofs.laws.values_are_words.Goals as goal

pub returns : goal.returns
returns c s e w sees = value_word s sees e w
