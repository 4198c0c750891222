use Rattle.std.proofs.Common.{◌≡◌, ◌+◌, ◌++◌, drop, map}
use Rattle.indus_tree.specs.View.{decl_of}
use Rattle.p4_meaning.specs.Parsing.{width_sum}
use Rattle.whole_properties.specs.Whole.{tele_fields}
use Rattle.lower_blocks.specs.Trees.{field_tree}
use Rattle.lower_blocks.proofs.property.add_fields.Given as goal

abbrev pub invariant-loop-d : goal.invariant-loop-d
invariant-loop-d l = record {
  fields : l.out.items ++ map field_tree (tele_fields (map decl_of (drop l.d-index l.decls))) ≡ l.initial.out.items ++ map field_tree (tele_fields (map decl_of l.decls));
  width : l.sum + width_sum (tele_fields (map decl_of (drop l.d-index l.decls))) ≡ 8 + width_sum (tele_fields (map decl_of l.decls));
}
