use Rattle.std.proofs.Common.{◌≡◌, map, take}
use Rattle.indus_tree.specs.View.{property_of}
use Rattle.lower_lists.specs.Flat.{list_number}
use Rattle.lower_lists.proofs.lists.list_numbers.Given as goal

abbrev pub invariant-loop-list : goal.invariant-loop-list
invariant-loop-list l = l.numbers.items ≡ map (list_number (property_of l.typed).decls) (take l.list-index l.lists)
