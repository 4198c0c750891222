use Rattle.indus_types.proofs.Checked.{each_fine}
use Rattle.indus_types.proofs.laws.each_is_fine.Goals as goal

pub returns : goal.returns
returns c = each_fine
