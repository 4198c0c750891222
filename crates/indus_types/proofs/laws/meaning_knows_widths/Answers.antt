use Rattle.indus_types.proofs.Widths.{own_static}
use Rattle.indus_types.proofs.laws.meaning_knows_widths.Goals as goal

pub returns : goal.returns
returns c = own_static
