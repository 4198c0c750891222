use Rattle.indus_types.proofs.ShortReports.{reports_short}
use Rattle.indus_types.proofs.laws.reports_are_short.Goals as goal

pub returns : goal.returns
returns c = reports_short
