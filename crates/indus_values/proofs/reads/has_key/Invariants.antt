use Rattle.std.proofs.Common.{◌≡◌, map, drop}
use Rattle.indus_tree.specs.Keys.{has_key}
use Rattle.indus_values.specs.View.{cells_of}
use Rattle.indus_values.proofs.reads.has_key.Given as goal

abbrev pub invariant-loop-k : goal.invariant-loop-k
invariant-loop-k l = has_key (map cells_of (drop l.k-index l.keys)) l.key ≡ has_key (map cells_of l.keys) l.key
