use Rattle.own_code.proofs.Held.{held_own}
use Rattle.own_code.proofs.own_tables_run_own_actions.Goals as goal

pub returns : goal.returns
returns c = held_own
