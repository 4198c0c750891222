use Rattle.std.proofs.Common.{◌≡◌, ◌++◌, map, drop}
use Rattle.p4_parts.specs.PartsIn.{action_in, table_in}
use Rattle.p4_tables.specs.Programs.{tables_before}
use Rattle.value_shapes.specs.Values.{lists_in}
use Rattle.p4_tables.proofs.start.tables_before.Given as goal

abbrev pub invariant-loop-i : goal.invariant-loop-i
invariant-loop-i l = l.held.items ++ tables_before (map action_in l.actions.actions.now) (lists_in l.params) (map table_in (drop l.i l.tables)) (drop l.i (lists_in l.keys)) ≡ tables_before (map action_in l.actions.actions.now) (lists_in l.params) (map table_in l.tables) (lists_in l.keys)
