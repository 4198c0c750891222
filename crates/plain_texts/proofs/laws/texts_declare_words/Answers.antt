use Rattle.plain_texts.proofs.Texts.{texts_declare_words}
use Rattle.plain_texts.proofs.laws.texts_declare_words.Goals as goal

pub returns : goal.returns
returns c = texts_declare_words
