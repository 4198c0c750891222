use Rattle.std.proofs.Common.{◌≡◌, ◌++◌, map}
use Rattle.indus_tree.specs.View.{decl_of}
use Rattle.flat_laws.specs.Numbered.{item_decls}
use Rattle.lower_blocks.proofs.numbered.add_items.Given as goal

abbrev pub invariant-loop-item : goal.invariant-loop-item
invariant-loop-item l = map decl_of l.out.items ≡ map decl_of l.initial.out.items ++ item_decls l.at l.number l.ty l.item
