use Rattle.rewriting_tables.proofs.Before as proved
use Rattle.rewriting_tables.proofs.laws.tables_stay.Goals as goal

pub returns : goal.returns
returns c = proved.tables_stay
