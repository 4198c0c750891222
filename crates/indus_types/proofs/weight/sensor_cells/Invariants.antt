use Rattle.std.proofs.Common.{◌≡◌, ◌≤◌, ◌+◌, map, drop}
use Rattle.indus_tree.specs.View.{decl_of}
use Rattle.indus_types.specs.Sums.{cut, sensor_cells}
use Rattle.indus_types.proofs.weight.sensor_cells.Given as goal

abbrev pub invariant-loop-d : goal.invariant-loop-d
invariant-loop-d l = (l.sum ≤ 4294967295) × (cut (l.sum + sensor_cells (map decl_of (drop l.d-index l.decls))) ≡ cut (sensor_cells (map decl_of l.decls)))
