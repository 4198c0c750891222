use Rattle.std.proofs.Common.{◌≡◌, ◌+◌, map, drop}
use Rattle.p4_parts.specs.PartsIn.{cells_decl}
use Rattle.slot_controls.specs.Callees.{register_number}
use Rattle.slot_control_codes.proofs.callees.register_number.Given as goal

abbrev pub invariant-loop-i : goal.invariant-loop-i
invariant-loop-i l = l.i + register_number (map cells_decl (drop l.i l.registers)) l.x ≡ register_number (map cells_decl l.registers) l.x
