use Rattle.std.proofs.Common.{◌≡◌, map, take}
use Rattle.indus_tree.specs.View.{decl_of}
use Rattle.indus_tree.proofs.copy.copy_decls.Given as goal

abbrev pub invariant-loop-d : goal.invariant-loop-d
invariant-loop-d l = map decl_of l.copies.items ≡ map decl_of (take l.d-index l.decls)
