use Rattle.std.proofs.Common.{◌≡◌, map, drop}
use Rattle.std.specs.Cmp.Lexicographic.{pointwise}
use Rattle.p4_parts.specs.PartsIn.{action_in}
use Rattle.table_shapes.specs.View.{action_shape_of}
use Rattle.p4_tables.specs.StandsTests.{is_listed}
use Rattle.p4_tables.proofs.stands.are_listed.Given as goal

abbrev pub invariant-loop-i : goal.invariant-loop-i
invariant-loop-i l =
    pointwise (is_listed (map action_in l.from.actions.now) (map action_in l.to.actions.now)) (map action_shape_of (drop l.i l.others)) (map action_shape_of (drop l.i l.own))
    ≡ pointwise (is_listed (map action_in l.from.actions.now) (map action_in l.to.actions.now)) (map action_shape_of l.others) (map action_shape_of l.own)
