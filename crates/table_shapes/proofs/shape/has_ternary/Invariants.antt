use Rattle.std.proofs.Common.{◌≡◌, drop}
use Rattle.table_shapes.specs.Shapes.{has_ternary}
use Rattle.table_shapes.proofs.shape.has_ternary.Given as goal

abbrev pub invariant-loop-k : goal.invariant-loop-k
invariant-loop-k l = has_ternary (drop l.k-index l.keys) ≡ has_ternary l.keys
