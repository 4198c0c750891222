use Rattle.std.proofs.Common.{◌≡◌, ◌++◌, map, drop}
use Rattle.p4_tree.specs.View.{top_of}
use Rattle.p4_meaning.specs.Parts.{registers_of}
use Rattle.p4_meaning.specs.Under.{no_scope}
use Rattle.p4_parts.specs.PartsIn.{cells_decl}
use Rattle.p4_resolved.specs.Scopes.{at_top}
use Rattle.p4_parts.proofs.fields.registers_of.Given as goal

abbrev pub invariant-loop-top : goal.invariant-loop-top
invariant-loop-top l = map cells_decl l.registers.items ++ registers_of (at_top l.layer.value) (map top_of (drop l.top-index l.tops)) ≡ registers_of no_scope (map top_of l.tops)
