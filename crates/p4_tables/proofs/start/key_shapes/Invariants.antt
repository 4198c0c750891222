use Rattle.std.proofs.Common.{◌≡◌, ◌++◌, map, drop}
use Rattle.p4_parts.specs.PartsIn.{key_in}
use Rattle.p4_tables.specs.Programs.{key_shapes}
use Rattle.p4_tables.proofs.start.key_shapes.Given as goal

abbrev pub invariant-loop-i : goal.invariant-loop-i
invariant-loop-i l = l.shapes.items ++ key_shapes (map key_in (drop l.i l.keys)) (drop l.i l.values) ≡ key_shapes (map key_in l.keys) l.values
