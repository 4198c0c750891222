use Rattle.carried_entries.proofs.Forms.{monitor_tables_have_form}
use Rattle.carried_entries.proofs.laws.monitor_tables_have_form.Goals as goal

pub returns : goal.returns
returns c = monitor_tables_have_form c.reaches_is_exact.ensures
