use Rattle.std.proofs.Common.{◌≡◌, ◌++◌, map, drop}
use Rattle.p4_tree.specs.View.{local_of}
use Rattle.p4_meaning.specs.Parts.{registers_in}
use Rattle.p4_parts.specs.PartsIn.{cells_decl}
use Rattle.p4_resolved.specs.Scopes.{scope_of}
use Rattle.p4_parts.proofs.fields.push_registers_in.Given as goal

abbrev pub invariant-loop-local : goal.invariant-loop-local
invariant-loop-local l = map cells_decl l.registers.items ++ registers_in (scope_of l.sc) (map local_of (drop l.local-index l.locals)) ≡ map cells_decl l.initial.registers.items ++ registers_in (scope_of l.sc) (map local_of l.locals)
