use Rattle.lookup_tables.proofs.Holding.{entries_are_contents}
use Rattle.lookup_tables.proofs.laws.entries_are_contents.Goals as goal

pub returns : goal.returns
returns c = entries_are_contents
