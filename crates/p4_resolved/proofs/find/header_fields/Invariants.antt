use Rattle.std.proofs.Common.{◌≡◌, map, drop}
use Rattle.p4_tree.specs.View.{top_of}
use Rattle.p4_meaning.specs.Parts.{header_fields}
use Rattle.p4_resolved.proofs.find.header_fields.Given as goal

abbrev pub invariant-loop-top : goal.invariant-loop-top
invariant-loop-top l = header_fields (map top_of (drop l.top-index l.tops)) l.name ≡ header_fields (map top_of l.tops) l.name
