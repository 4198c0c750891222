use Rattle.std.proofs.Common.{◌≡◌, map, take}
use Rattle.indus_values.specs.View.{entry_of}
use Rattle.indus_values.proofs.copy.copy_entries.Given as goal

abbrev pub invariant-loop-entry : goal.invariant-loop-entry
invariant-loop-entry l = map entry_of l.copies.items ≡ map entry_of (take l.entry-index l.entries)
