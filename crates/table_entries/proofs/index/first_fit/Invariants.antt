use Rattle.std.proofs.Common.{◌≡◌, map}
use Rattle.table_entries.specs.Index.{first_fit}
use Rattle.table_entries.specs.View.{entry_of}
use Rattle.table_entries.proofs.index.first_fit.Given as goal

abbrev pub invariant-loop-place : goal.invariant-loop-place
invariant-loop-place l = first_fit (map entry_of l.listed) l.keys l.place-iterator ≡ first_fit (map entry_of l.listed) l.keys l.places.entries
