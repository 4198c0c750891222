use Rattle.slot_tables.proofs.StateLemmas.{tables_choose}
use Rattle.slot_tables.proofs.laws.tables_choose.Goals as goal

pub returns : goal.returns
returns c = tables_choose
