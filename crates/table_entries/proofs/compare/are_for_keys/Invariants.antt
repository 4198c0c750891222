use Rattle.std.proofs.Common.{◌≡◌, map, drop}
use Rattle.table_shapes.specs.Shapes.{are_for_keys}
use Rattle.table_entries.specs.View.{match_of}
use Rattle.table_entries.proofs.compare.are_for_keys.Given as goal

abbrev pub invariant-loop-i : goal.invariant-loop-i
invariant-loop-i l = are_for_keys (drop l.i l.keys) (map match_of (drop l.i l.list)) ≡ are_for_keys l.keys (map match_of l.list)
