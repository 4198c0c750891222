use Rattle.control_tables.proofs.Lookups.{choice_is_lookup}
use Rattle.control_tables.proofs.laws.choice_is_lookup.Goals as goal

pub returns : goal.returns
returns c = choice_is_lookup
