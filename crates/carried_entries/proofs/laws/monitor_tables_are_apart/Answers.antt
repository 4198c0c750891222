use Rattle.carried_entries.proofs.Rows.{monitor_tables_are_apart}
use Rattle.carried_entries.proofs.laws.monitor_tables_are_apart.Goals as goal

pub returns : goal.returns
returns c = monitor_tables_are_apart c.reaches_is_exact.ensures
