use Rattle.std.proofs.Common.{◌≡◌, map, take}
use Rattle.p4_parts.specs.PartsIn.{cells_decl}
use Rattle.p4_slots.proofs.RegisterLemmas.{cells_from}
use Rattle.p4_slots.proofs.room.registers_before.Given as goal

abbrev pub invariant-loop-declared : goal.invariant-loop-declared
invariant-loop-declared l = l.registers.items ≡ cells_from (map cells_decl (take l.declared-index l.list))
