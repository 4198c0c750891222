use Rattle.lookup_tables.proofs.Finding.{tables_find}
use Rattle.lookup_tables.proofs.laws.tables_find_what_is_looked_up.Goals as goal

pub returns : goal.returns
returns c = tables_find
