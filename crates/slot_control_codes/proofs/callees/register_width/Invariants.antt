use Rattle.std.proofs.Common.{◌≡◌, map, drop}
use Rattle.p4_parts.specs.PartsIn.{cells_decl}
use Rattle.slot_controls.specs.Callees.{register_width}
use Rattle.slot_control_codes.proofs.callees.register_width.Given as goal

abbrev pub invariant-loop-register : goal.invariant-loop-register
invariant-loop-register l = register_width (map cells_decl (drop l.register-index l.registers)) l.x ≡ register_width (map cells_decl l.registers) l.x
