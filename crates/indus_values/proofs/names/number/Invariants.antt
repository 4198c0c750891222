use Rattle.std.proofs.Common.{◌≡◌, map, drop}
use Rattle.indus_tree.specs.View.{decl_of}
use Rattle.indus_tree.specs.Hops.{variable_number_from}
use Rattle.indus_values.proofs.names.number.Given as goal

abbrev pub invariant-loop-n : goal.invariant-loop-n
invariant-loop-n l = variable_number_from l.n (map decl_of (drop l.n l.decls)) l.name ≡ variable_number_from 0 (map decl_of l.decls) l.name
