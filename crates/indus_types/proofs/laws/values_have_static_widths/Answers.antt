use Rattle.indus_types.proofs.ValueWidths.{have_static}
use Rattle.indus_types.proofs.laws.values_have_static_widths.Goals as goal

pub returns : goal.returns
returns c = have_static
