use Rattle.std.proofs.Common.{◌≡◌, drop}
use Rattle.lower_lists.specs.Flat.{found}
use Rattle.lower_lists.proofs.names.source.Given as goal

abbrev pub invariant-loop-b : goal.invariant-loop-b
invariant-loop-b l = found (drop l.b-index l.bounds) l.name ≡ found l.bounds l.name
