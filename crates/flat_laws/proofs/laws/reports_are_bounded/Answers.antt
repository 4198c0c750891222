use Rattle.flat_laws.proofs.SizeLemmas.{reports_are_bounded}
use Rattle.flat_laws.proofs.laws.reports_are_bounded.Goals as goal

pub returns : goal.returns
returns c = reports_are_bounded
