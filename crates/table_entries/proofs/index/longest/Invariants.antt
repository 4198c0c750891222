use Rattle.std.proofs.Common.{◌≡◌, drop}
use Rattle.table_entries.specs.Index.{longest}
use Rattle.table_entries.proofs.index.longest.Given as goal

abbrev pub invariant-loop-k : goal.invariant-loop-k
invariant-loop-k l = longest (drop l.k-index l.kinds) ≡ longest l.kinds
