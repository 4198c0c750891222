use Rattle.carried_entries.proofs.Places.{entries_have_places}
use Rattle.carried_entries.proofs.laws.entries_have_places.Goals as goal

pub returns : goal.returns
returns c = entries_have_places c.reaches_is_exact.ensures
