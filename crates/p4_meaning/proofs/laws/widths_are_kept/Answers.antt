use Rattle.p4_meaning.proofs.KeptWords.{calls_keep_words}
use Rattle.p4_meaning.proofs.laws.widths_are_kept.Goals as goal

pub returns : goal.returns
returns c = λ as' ts held ss r h. calls_keep_words as' ts held ss r h
