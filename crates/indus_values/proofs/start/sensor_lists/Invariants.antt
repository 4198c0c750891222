use Rattle.std.proofs.Common.{◌≡◌, ◌++◌, map, drop}
use Rattle.indus_tree.specs.View.{decl_of}
use Rattle.indus_values.specs.Lists.{sensor_lists}
use Rattle.indus_values.specs.View.{cells_of}
use Rattle.indus_values.proofs.start.sensor_lists.Given as goal

abbrev pub invariant-loop-d : goal.invariant-loop-d
invariant-loop-d l = map cells_of l.lists.items ++ sensor_lists (map decl_of (drop l.d-index l.decls)) ≡ sensor_lists (map decl_of l.decls)
