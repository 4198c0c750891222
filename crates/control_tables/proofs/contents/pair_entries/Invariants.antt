use Rattle.std.proofs.Common.{◌≡◌, ◌∷◌, [], map, take}
use Rattle.indus_values.specs.View.{entry_of as pair_seen}
use Rattle.table_entries.specs.View.{entry_of}
use Rattle.control_tables.specs.Contents as contents
use Rattle.control_tables.proofs.contents.pair_entries.Given as goal

abbrev pub invariant-loop-pair : goal.invariant-loop-pair
invariant-loop-pair l = map entry_of l.entries.items ≡ map (λ e. contents.entry_for l.action e.0 (e.1 ∷ [])) (map pair_seen (take l.pair-index l.pairs))
