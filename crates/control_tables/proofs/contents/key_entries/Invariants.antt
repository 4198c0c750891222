use Rattle.std.proofs.Common.{◌≡◌, [], map, take}
use Rattle.indus_values.specs.View.{cells_of}
use Rattle.table_entries.specs.View.{entry_of}
use Rattle.control_tables.specs.Contents as contents
use Rattle.control_tables.proofs.contents.key_entries.Given as goal

abbrev pub invariant-loop-key : goal.invariant-loop-key
invariant-loop-key l = map entry_of l.entries.items ≡ map (λ k. contents.entry_for l.action k []) (map cells_of (take l.key-index l.keys))
