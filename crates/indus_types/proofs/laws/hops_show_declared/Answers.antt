use Rattle.indus_types.proofs.ShownWidths.{hops_show}
use Rattle.indus_types.proofs.laws.hops_show_declared.Goals as goal

pub returns : goal.returns
returns c = hops_show
