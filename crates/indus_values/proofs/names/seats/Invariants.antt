use Rattle.std.proofs.Common.{◌≡◌, ◌≤◌, ◌+◌, map, drop}
use Rattle.indus_tree.specs.View.{decl_of}
use Rattle.indus_values.specs.View.{seats}
use Rattle.indus_values.proofs.names.seats.Given as goal

abbrev pub invariant-loop-d : goal.invariant-loop-d
invariant-loop-d l = (l.n ≤ l.d-index) × (l.n + seats l.kind (map decl_of (drop l.d-index l.decls)) ≡ seats l.kind (map decl_of l.decls))
