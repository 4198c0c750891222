use Rattle.std.proofs.Common.{◌≡◌, drop}
use Rattle.indus_tree.specs.View.{property_of}
use Rattle.indus_types.specs.Sums.{smallest}
use Rattle.indus_types.proofs.Smallest.{smallest_behind}
use Rattle.lower_lists.proofs.lists.smallest.Given as goal

abbrev pub invariant-loop-x : goal.invariant-loop-x
invariant-loop-x l = smallest_behind (property_of l.typed).decls l.least (drop l.x-index l.lists) ≡ smallest (property_of l.typed).decls l.lists
