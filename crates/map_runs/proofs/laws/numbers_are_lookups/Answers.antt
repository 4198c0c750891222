use Rattle.map_runs.proofs.Linked.{numbers_are_lookups}
use Rattle.map_runs.proofs.laws.numbers_are_lookups.Goals as goal

pub returns : goal.returns
returns c = numbers_are_lookups
