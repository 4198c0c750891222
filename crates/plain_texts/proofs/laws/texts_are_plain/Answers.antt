use Rattle.plain_texts.proofs.Texts.{texts_are_plain}
use Rattle.plain_texts.proofs.laws.texts_are_plain.Goals as goal

pub returns : goal.returns
returns c = texts_are_plain
