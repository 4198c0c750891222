use Rattle.std.proofs.Common.{◌≡◌, map, drop}
use Rattle.indus_tree.specs.View.{decl_of}
use Rattle.indus_types.specs.Sums.{smallest}
use Rattle.indus_types.proofs.Smallest.{smallest_behind}
use Rattle.indus_types.proofs.lists.smallest.Given as goal

abbrev pub invariant-loop-x : goal.invariant-loop-x
invariant-loop-x l = smallest_behind (map decl_of l.decls.decls.now) l.least (drop l.x-index l.lists) ≡ smallest (map decl_of l.decls.decls.now) l.lists
