use Rattle.std.proofs.Common.{◌≡◌, map, drop}
use Rattle.indus_tree.specs.Meaning.{shortest}
use Rattle.indus_values.specs.View.{cells_of}
use Rattle.indus_run.proofs.Shortest.{shortest_behind}
use Rattle.indus_run.proofs.run.shortest.Given as goal

abbrev pub invariant-loop-list : goal.invariant-loop-list
invariant-loop-list l = shortest_behind l.least (map cells_of (drop l.list-index l.lists)) ≡ shortest (map cells_of l.lists)
