use Rattle.rewriting_laws.proofs.OwnWidthsLemmas.{own_widths_are_known}
use Rattle.rewriting_laws.proofs.laws.own_widths_are_known.Goals as goal

pub returns : goal.returns
returns c = own_widths_are_known
