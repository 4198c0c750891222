use Rattle.std.proofs.Common.{◌≡◌, ◌++◌, map, drop}
use Rattle.indus_tree.specs.Meaning.{turn_items}
use Rattle.indus_values.specs.View.{cells_of}
use Rattle.indus_run.proofs.run.turn_items.Given as goal

abbrev pub invariant-loop-l : goal.invariant-loop-l
invariant-loop-l l = l.words.items ++ turn_items (map cells_of (drop l.l-index l.lists)) l.k ≡ turn_items (map cells_of l.lists) l.k
