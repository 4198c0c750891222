-- The law by its lemma.
use Rattle.lex_words.proofs.FairLexemes.{tokens_are_lexemes}
use Rattle.lex_words.proofs.laws.fair_lexemes.Goals as goal

pub returns : goal.returns
returns c = tokens_are_lexemes
