use Rattle.std.proofs.Common.{◌≡◌, map, take}
use Rattle.table_entries.specs.View.{entry_of}
use Rattle.table_entries.proofs.entry.copy_entries.Given as goal

abbrev pub invariant-loop-e : goal.invariant-loop-e
invariant-loop-e l = map entry_of l.copies.items ≡ map entry_of (take l.e-index l.list)
