-- Each law by its lemma.
use Rattle.p4_printer.proofs.Whole.{text_is_printed}
use Rattle.p4_printer.proofs.Plain.{same_have_one_text}
use Rattle.p4_printer.proofs.laws.texts.Goals as goal

pub returns-clause-printed : goal.returns-clause-printed
returns-clause-printed c = text_is_printed

pub returns-clause-same : goal.returns-clause-same
returns-clause-same c = same_have_one_text
