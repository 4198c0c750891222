use Rattle.link_faults.proofs.TableNames.{tables_name_nothing_new}
use Rattle.link_faults.proofs.laws.tables_name_nothing_new.Goals as goal

pub returns : goal.returns
returns c = tables_name_nothing_new
