use Rattle.std.proofs.Common.{◌≡◌, map, drop}
use Rattle.p4_tree.specs.View.{top_of}
use Rattle.p4_meaning.specs.Parts.{scope_at_parser}
use Rattle.p4_meaning.specs.Under.{no_scope}
use Rattle.p4_resolved.specs.Scopes.{at_top}
use Rattle.p4_parts.proofs.bodies.layer_at_parser.Given as goal

abbrev pub invariant-loop-top : goal.invariant-loop-top
invariant-loop-top l = scope_at_parser (at_top l.layer.value) (map top_of (drop l.top-index l.tops)) l.name ≡ scope_at_parser no_scope (map top_of l.tops) l.name
