use Rattle.std.proofs.Common.{◌≡◌, ◌+◌, map, drop}
use Rattle.p4_parts.specs.PartsIn.{table_in}
use Rattle.slot_controls.specs.Callees.{table_number}
use Rattle.slot_control_codes.proofs.callees.table_number.Given as goal

abbrev pub invariant-loop-i : goal.invariant-loop-i
invariant-loop-i l = l.i + table_number (map table_in (drop l.i l.tables)) l.x ≡ table_number (map table_in l.tables) l.x
