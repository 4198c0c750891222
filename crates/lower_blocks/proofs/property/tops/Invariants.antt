use Rattle.std.proofs.Common.{◌≡◌, ◌++◌, drop, map}
use Rattle.indus_tree.specs.View.{decl_of}
use Rattle.p4_tree.specs.View.{top_of}
use Rattle.lower_blocks.specs.Trees.{registers_of}
use Rattle.lower_blocks.proofs.property.tops.Given as goal

abbrev pub invariant-loop-d : goal.invariant-loop-d
invariant-loop-d l = map top_of l.out.items ++ registers_of (map decl_of (drop l.d-index l.given)) ≡ map top_of l.initial.out.items ++ registers_of (map decl_of l.given)
